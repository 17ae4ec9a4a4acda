-- The marks that a book tells are those of the peers that are up, in each of their views and of each family.
use Rattle.std.proofs.Common.{◌≡◌, ℕ, Bool, true, false, List, [], ◌∷◌, map, refl, sym, ap, ◌∙◌, subst, arith, lit<}
use Rattle.std.specs.Prelude.{◌↔◌, IsTrue, ◌==◌, if◌then◌else◌}
use Rattle.std.specs.declared.cmp.Ordering.{Ordering}
use Rattle.std.specs.declared.cmp.Ordering.TheVariants.{Less, Equal}
use Rattle.std.specs.Ordering.{ordering_then}
use Rattle.std.specs.List.{AllByRecursion, Contains, filter}
use Rattle.std.specs.List.Sorted.{IsStrictlySortedBy}
use Rattle.std.specs.Map.{keys_of}
use Rattle.std.proofs.lemmas.Cmp.{tied_itself}
use Rattle.bmp_specs.specs.declared.peers.View.{View}
use Rattle.bmp_specs.specs.declared.peers.View.TheVariants.{InPre, InPost, OutPre, OutPost, Loc}
use Rattle.bmp_specs.specs.declared.wire.Family.{Family}
use Rattle.bmp_specs.specs.declared.wire.Family.TheVariants.{V4, V6}
use Rattle.bmp_specs.specs.Orders.{key_cmp, view_cmp, family_cmp}
use Rattle.bmp_specs.specs.PeerHeader.{views_of_key, loc_rib}
use Rattle.bmp_specs.specs.PeerLines.{mark_line}
use Rattle.bmp_specs.specs.PeerUp.{StateValue, up_state, down_state, IsPeerAs}
use Rattle.bmp_specs.specs.Query.{marks}
use Rattle.bmp_specs.specs.QueryReply.{MarkValue, mark_cmp, IsMark, AreLaneLines}
use Rattle.bmp_specs.specs.Selection.{SelectValue, IsSelected}
use Rattle.bmp_specs.specs.Session.{session_effects}
use Rattle.bmp_specs.specs.Values.{KeyValue, EntryValue}
use Rattle.bmp_specs.proofs.ListedOne.{all_one}
use Rattle.bmp_specs.proofs.OrderLaws.{key_total, view_total}
use Rattle.bmp_specs.proofs.QueryReplies.{mark_total}
use Rattle.peer_book.specs.Peers.{Peers, is_complete_at}
use Rattle.peer_book.specs.Standing.{StandsForPeers}
use Rattle.query_eval.specs.Told.{states_in, mark_of, view_marks, peer_marks, state_marks, marks_in, keeps_mark, plain_mark, mark_lines}
use Rattle.query_eval.proofs.Keeping.{keeps_decides, from_filter, to_filter, sorted_kept, from_map, to_map, from_flat, to_flat, all_join, sorted_join}
use Rattle.query_eval.proofs.PeersTold.{peer_told}

-- ---- their order
-- a mark of an earlier peer, or of an earlier view of the same one
before_key : (m n : MarkValue) → key_cmp m.key n.key ≡ Less → mark_cmp m n ≡ Less
before_key m n less = ap (λ (o : Ordering). ordering_then o (ordering_then (view_cmp m.view n.view) (family_cmp m.family n.family))) less

before_view : (m n : MarkValue) → m.key ≡ n.key → view_cmp m.view n.view ≡ Less → mark_cmp m n ≡ Less
before_view m n same less =
    let tied : key_cmp m.key n.key ≡ Equal = subst (λ (k : KeyValue). key_cmp m.key k ≡ Equal) same (tied_itself key_total m.key) in
    ap (λ (o : Ordering). ordering_then o (ordering_then (view_cmp m.view n.view) (family_cmp m.family n.family))) tied ∙ ap (λ (o : Ordering). ordering_then o (family_cmp m.family n.family)) less

before_family : (m n : MarkValue) → m.key ≡ n.key → m.view ≡ n.view → family_cmp m.family n.family ≡ Less → mark_cmp m n ≡ Less
before_family m n same alike less =
    let tied : key_cmp m.key n.key ≡ Equal = subst (λ (k : KeyValue). key_cmp m.key k ≡ Equal) same (tied_itself key_total m.key) in
    let tied_view : view_cmp m.view n.view ≡ Equal = subst (λ (v : View). view_cmp m.view v ≡ Equal) alike (tied_itself view_total m.view) in
    ap (λ (o : Ordering). ordering_then o (ordering_then (view_cmp m.view n.view) (family_cmp m.family n.family))) tied ∙ ap (λ (o : Ordering). ordering_then o (family_cmp m.family n.family)) tied_view ∙ less

module _ (book : Peers) where
  view_sorted : (key : KeyValue) (view : View) → IsStrictlySortedBy mark_cmp (view_marks book key view)
  unfolding IsStrictlySortedBy
  view_sorted key view = ((before_family (mark_of book key view V4) (mark_of book key view V6) refl refl refl, tt), (tt, tt))

  behind_view : (m : MarkValue) (views : List View) → AllByRecursion (λ v. view_cmp m.view v ≡ Less) views → AllByRecursion (λ n. mark_cmp m n ≡ Less) (peer_marks book m.key views)
  behind_view m [] a = tt
  behind_view m (v ∷ vs) a = (before_view m (mark_of book m.key v V4) refl a.0, (before_view m (mark_of book m.key v V6) refl a.0, behind_view m vs a.1))

  views_sorted : (key : KeyValue) (views : List View) → IsStrictlySortedBy view_cmp views → IsStrictlySortedBy mark_cmp (peer_marks book key views)
  unfolding IsStrictlySortedBy
  views_sorted key [] s = tt
  views_sorted key (v ∷ vs) s = sorted_join mark_cmp (view_marks book key v) (peer_marks book key vs) (view_sorted key v) (views_sorted key vs s.1) (behind_view (mark_of book key v V4) vs s.0, (behind_view (mark_of book key v V6) vs s.0, tt))

  -- marks of a peer are all of it
  of_key_view : (P : KeyValue → Type 0) (key : KeyValue) (views : List View) → P key → AllByRecursion (λ m. P m.key) (peer_marks book key views)
  of_key_view P key [] p = tt
  of_key_view P key (v ∷ vs) p = (p, (p, of_key_view P key vs p))

  of_key : (P : KeyValue → Type 0) (e : KeyValue × StateValue) → P e.0 → AllByRecursion (λ m. P m.key) (state_marks book e)
  of_key P (key, up_state info) p = of_key_view P key (views_of_key key) p
  of_key P (key, down_state info) p = tt

  views_ordered : (loc : Bool) → IsStrictlySortedBy view_cmp (if loc then Loc ∷ [] else InPre ∷ InPost ∷ OutPre ∷ OutPost ∷ [])
  unfolding IsStrictlySortedBy
  views_ordered true = (tt, tt)
  views_ordered false = ((refl, (refl, (refl, tt))), ((refl, (refl, tt)), ((refl, tt), (tt, tt))))

  state_sorted : (e : KeyValue × StateValue) → IsStrictlySortedBy mark_cmp (state_marks book e)
  unfolding IsStrictlySortedBy
  state_sorted (key, up_state info) = views_sorted key (views_of_key key) (views_ordered (key.kind == loc_rib))
  state_sorted (key, down_state info) = tt

  -- lifts what is so of all marks' peers
  lifted : {X : Type 0} (P Q : X → Type 0) (xs : List X) → ((x : X) → P x → Q x) → AllByRecursion P xs → AllByRecursion Q xs
  lifted P Q [] f a = tt
  lifted P Q (x ∷ xs) f a = (f x a.0, lifted P Q xs f a.1)

  behind_peers : (key : KeyValue) (es : List (KeyValue × StateValue)) → AllByRecursion (λ k. key_cmp key k ≡ Less) (keys_of es) → AllByRecursion (λ m. key_cmp key m.key ≡ Less) (marks_in book es)
  behind_peers key [] a = tt
  behind_peers key (e ∷ es) a = all_join (λ (m : MarkValue). key_cmp key m.key ≡ Less) (state_marks book e) (marks_in book es) (of_key (λ k. key_cmp key k ≡ Less) e a.0) (behind_peers key es a.1)

  each_before : (e : KeyValue × StateValue) (es : List (KeyValue × StateValue)) → AllByRecursion (λ k. key_cmp e.0 k ≡ Less) (keys_of es) → AllByRecursion (λ m. AllByRecursion (λ n. mark_cmp m n ≡ Less) (marks_in book es)) (state_marks book e)
  each_before e es a =
      let P : KeyValue → Type 0 = λ key. AllByRecursion (λ (n : MarkValue). key_cmp key n.key ≡ Less) (marks_in book es) in
      lifted (λ (m : MarkValue). P m.key) (λ m. AllByRecursion (λ n. mark_cmp m n ≡ Less) (marks_in book es)) (state_marks book e)
      (λ m p. lifted (λ (n : MarkValue). key_cmp m.key n.key ≡ Less) (λ n. mark_cmp m n ≡ Less) (marks_in book es) (λ n less. before_key m n less) p)
      (of_key P e (behind_peers e.0 es a))

  pub marks_sorted : (es : List (KeyValue × StateValue)) → IsStrictlySortedBy key_cmp (keys_of es) → IsStrictlySortedBy mark_cmp (marks_in book es)
  unfolding IsStrictlySortedBy
  marks_sorted [] s = tt
  marks_sorted (e ∷ es) s = sorted_join mark_cmp (state_marks book e) (marks_in book es) (state_sorted e) (marks_sorted es s.1) (each_before e es s.0)

  -- ---- which they are
  same_truth : (b c : Bool) → (IsTrue b → IsTrue c) → (IsTrue c → IsTrue b) → b ≡ c
  same_truth true c f g = sym (f refl)
  same_truth false true f g = g refl
  same_truth false false f g = refl

  family_there : (family : Family) → Contains (V4 ∷ V6 ∷ []) family
  family_there V4 = (0, lit< tt, refl)
  family_there V6 = (1, lit< tt, refl)

  module _ (ordered : IsStrictlySortedBy key_cmp (keys_of (states_in book))) (entries : List EntryValue) (stands : StandsForPeers book (session_effects entries)) where
    from_peer : (e : KeyValue × StateValue) (m : MarkValue) → IsPeerAs (session_effects entries) e.0 e.1 → Contains (state_marks book e) m → IsMark entries m
    from_peer (key, up_state info) m is c =
        let v = from_flat (view_marks book key) (views_of_key key) m c in
        let f = from_map (mark_of book key v.0) (V4 ∷ V6 ∷ []) m v.2 in
        subst (IsMark entries) f.2 (record { up = (info, is); view_is = v.1; complete_is = stands.complete key v.0 f.0 })
    from_peer (key, down_state info) m is c = absurd (omega (arith, c.1))

    pub mark_told : (m : MarkValue) → Contains (marks_in book (states_in book)) m ↔ IsMark entries m
    mark_told m = (
      λ c. let h = from_flat (state_marks book) (states_in book) m c in from_peer h.0 m ((peer_told book ordered (session_effects entries) stands h.0).0 h.1) h.2,
      λ is.
          let there = (peer_told book ordered (session_effects entries) stands (m.key, up_state is.up.0)).1 is.up.1 in
          let of_family : Contains (view_marks book m.key m.view) (mark_of book m.key m.view m.family) = to_map (mark_of book m.key m.view) (V4 ∷ V6 ∷ []) m.family (family_there m.family) in
          let of_view : Contains (peer_marks book m.key (views_of_key m.key)) (mark_of book m.key m.view m.family) = to_flat (view_marks book m.key) (views_of_key m.key) m.view (mark_of book m.key m.view m.family) is.view_is of_family in
          let complete = stands.complete m.key m.view m.family in
          let same : is_complete_at book m.key m.view m.family ≡ m.complete = same_truth _ _ (λ t. is.complete_is.1 (complete.0 t)) (λ t. complete.1 (is.complete_is.0 t)) in
          subst (Contains (marks_in book (states_in book))) (λ i. record { key = m.key; view = m.view; family = m.family; complete = same i })
          (to_flat (state_marks book) (states_in book) (m.key, up_state is.up.0) (mark_of book m.key m.view m.family) there of_view),
    )

pub same_marks : (ms : List MarkValue) → map (λ m. m) ms ≡ ms
same_marks [] = refl
same_marks (m ∷ ms) = ap (λ (l : List MarkValue). m ∷ l) (same_marks ms)

module _ (select : SelectValue) (lane : ℕ) (entries : List EntryValue) where
  pub are_mark_lines : (book : Peers) → IsStrictlySortedBy key_cmp (keys_of (states_in book)) → StandsForPeers book (session_effects entries) → AreLaneLines (marks select) lane entries (mark_lines plain_mark select lane (marks_in book (states_in book)))
  are_mark_lines book ordered stands =
      let all = marks_in book (states_in book) in
      record {
        known = filter (keeps_mark select lane) all;
        are_known = record {
          ordered = sorted_kept (keeps_mark select lane) (λ (m : MarkValue). m) mark_cmp all (subst (IsStrictlySortedBy mark_cmp) (sym (same_marks all)) (marks_sorted book (states_in book) ordered));
          exact = λ m. (
            λ c. let h = from_filter (keeps_mark select lane) all m c in ((mark_told book ordered entries stands m).0 h.0, (keeps_decides select lane m.key m.view m.family).0 h.1),
            λ h. to_filter (keeps_mark select lane) all m ((mark_told book ordered entries stands m).1 h.0) ((keeps_decides select lane m.key m.view m.family).1 h.1),
          );
        };
        told = refl;
      }

  pub mark_lines_one : (a b : List (List ℕ)) → AreLaneLines (marks select) lane entries a → AreLaneLines (marks select) lane entries b → a ≡ b
  mark_lines_one a b p q =
      p.told ∙ ap (map (λ (m : MarkValue). mark_line lane m.key m.view m.family m.complete))
      (all_one (λ (m : MarkValue). m) mark_cmp mark_total (λ m. IsMark entries m × IsSelected select lane m.key m.view m.family) p.known q.known p.are_known q.are_known) ∙ sym q.told
