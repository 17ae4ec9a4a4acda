-- The peers that a book tells are those that the entries name, each as its last Peer Up or Peer Down left it.
use Rattle.std.proofs.Common.{◌≡◌, ℕ, Bool, List, [], ◌∷◌, length, map, Option, None, Some, refl, sym, ap, ◌∙◌, subst}
use Rattle.std.specs.Prelude.{◌↔◌}
use Rattle.std.specs.List.{Contains, filter}
use Rattle.std.specs.List.Sorted.{IsStrictlySortedBy}
use Rattle.std.specs.Cmp.{eq_by_cmp_equiv}
use Rattle.std.specs.Map.{keys_of}
use Rattle.std.specs.Option.{option_map}
use Rattle.std.proofs.lemmas.Map.Keys.{IsDistinct-from_sorted}
use Rattle.std.proofs.lemmas.Map.Views.{Contains-from_lookup, lookup-from_Contains, tells_apart}
use mathlib.Core.Logic.Iff.{trans as then_iff}
use Rattle.bmp_specs.specs.Orders.{key_cmp}
use Rattle.bmp_specs.specs.Counts.{counts_of}
use Rattle.bmp_specs.specs.PeerLines.{live_line}
use Rattle.bmp_specs.specs.PeerUp.{StateValue, up_state, down_state, IsPeerAs, IsUp}
use Rattle.bmp_specs.specs.Query.{peers, routers}
use Rattle.bmp_specs.specs.QueryReply.{peer_line, AreLaneLines, IsRouterLine}
use Rattle.bmp_specs.specs.Reply.{told_count}
use Rattle.bmp_specs.specs.Selection.{IsPeerSelected}
use Rattle.bmp_specs.specs.Session.{LaneStateValue, idle, live, shut, state_of, session_effects, lane_name, lane_description}
use Rattle.bmp_specs.specs.Values.{KeyValue, EffectValue, EntryValue}
use Rattle.bmp_specs.proofs.ListedOne.{all_one}
use Rattle.bmp_specs.proofs.OrderLaws.{key_total, key_exact}
use Rattle.peer_book.specs.Peers.{Peers, PeerValue, keyed_state, peer_at, state_at, state_of as peer_state}
use Rattle.peer_book.specs.Standing.{StandsForPeers}
use Rattle.query_eval.specs.Selecting.{keeps_peer}
use Rattle.query_eval.specs.Told.{states_in, state_lines}
use Rattle.query_eval.proofs.Keeping.{peer_decides, from_filter, to_filter, sorted_kept, from_map, to_map}
use Rattle.query_eval.proofs.Walking.{keys_same}

module _ (book : Peers) (ordered : IsStrictlySortedBy key_cmp (keys_of (states_in book))) where
  book_ordered : IsStrictlySortedBy key_cmp (keys_of book)
  book_ordered = subst (IsStrictlySortedBy key_cmp) (keys_same key_cmp keyed_state (λ e. refl) book) ordered

  from_there : (o : Option PeerValue) (state : StateValue) → option_map peer_state o ≡ Some state → (p : PeerValue) × (o ≡ Some p) × (peer_state p ≡ state)
  from_there None state h = absurd cc
  from_there (Some p) state h = (p, refl, cc)

  -- a peer is told with the state that the book has of it
  pub state_told : (x : KeyValue × StateValue) → Contains (states_in book) x ↔ (state_at book x.0 ≡ Some x.1)
  state_told x = (
    λ c.
        let h = from_map keyed_state book x c in
        let e = h.0 in
        let there : peer_at book e.0 ≡ Some e.1 = lookup-from_Contains (eq_by_cmp_equiv key_total) e.0 e.1 book (IsDistinct-from_sorted key_cmp (keys_of book) book_ordered) h.1 in
        subst (λ (y : KeyValue × StateValue). state_at book y.0 ≡ Some y.1) h.2 (ap (option_map peer_state) there),
    λ is.
        let h = from_there (peer_at book x.0) x.1 is in
        let there : Contains book (x.0, h.0) = Contains-from_lookup (tells_apart key_exact) x.0 h.0 book h.1 in
        subst (λ (s : StateValue). Contains (states_in book) (x.0, s)) h.2 (to_map keyed_state book (x.0, h.0) there),
  )

  module _ (effects : List EffectValue) (stands : StandsForPeers book effects) where
    state_is : (key : KeyValue) (state : StateValue) → (state_at book key ≡ Some state) ↔ IsPeerAs effects key state
    state_is key (up_state info) = stands.up key info
    state_is key (down_state info) = stands.down key info

    pub peer_told : (x : KeyValue × StateValue) → Contains (states_in book) x ↔ IsPeerAs effects x.0 x.1
    peer_told x = then_iff (state_told x) (state_is x.0 x.1)

module _ (router : Option ℕ) (peer : Option KeyValue) (lane : ℕ) (entries : List EntryValue) where
  -- the lines of a book's peers that are asked for
  pub are_peer_lines : (book : Peers) → IsStrictlySortedBy key_cmp (keys_of (states_in book)) → StandsForPeers book (session_effects entries) → AreLaneLines (peers router peer) lane entries (state_lines router peer lane (states_in book))
  are_peer_lines book ordered stands =
      let test : KeyValue × StateValue → Bool = λ p. keeps_peer router peer lane p.0 in
      record {
        known = filter test (states_in book);
        are_known = record {
          ordered = sorted_kept test (λ (p : KeyValue × StateValue). p.0) key_cmp (states_in book) ordered;
          exact = λ x. (
            λ c. let h = from_filter test (states_in book) x c in ((peer_told book ordered (session_effects entries) stands x).0 h.0, (peer_decides router peer lane x.0).0 h.1),
            λ h. to_filter test (states_in book) x ((peer_told book ordered (session_effects entries) stands x).1 h.0) ((peer_decides router peer lane x.0).1 h.1),
          );
        };
        told = refl;
      }

  pub peer_lines_one : (a b : List (List ℕ)) → AreLaneLines (peers router peer) lane entries a → AreLaneLines (peers router peer) lane entries b → a ≡ b
  peer_lines_one a b p q =
      p.told ∙ ap (map (peer_line lane)) (all_one (λ (x : KeyValue × StateValue). x.0) key_cmp key_total (λ x. IsPeerAs (session_effects entries) x.0 x.1 × IsPeerSelected router peer lane x.0) p.known q.known p.are_known q.are_known) ∙ sym q.told

-- a lane has one line in `routers`
module _ (lane : ℕ) (entries : List EntryValue) where
  router_line_one : (s : LaneStateValue) (a b : List ℕ) → IsRouterLine lane entries s a → IsRouterLine lane entries s b → a ≡ b
  router_line_one idle a b p q = p ∙ sym q
  router_line_one (shut cause) a b p q = p ∙ sym q
  router_line_one live a b (up, are, p) (others, are_others, q) =
      p ∙ ap (λ (keys : List KeyValue). live_line lane (told_count (length keys)) (counts_of entries) (lane_name entries) (lane_description entries))
      (all_one (λ (key : KeyValue). key) key_cmp key_total (IsUp (session_effects entries)) up others are are_others) ∙ sym q

  pub router_lines_one : (a b : List (List ℕ)) → AreLaneLines routers lane entries a → AreLaneLines routers lane entries b → a ≡ b
  router_lines_one a b (t, r, p) (u, s, q) = p ∙ ap (λ (l : List ℕ). l ∷ []) (router_line_one (state_of entries) t u r s) ∙ sym q
