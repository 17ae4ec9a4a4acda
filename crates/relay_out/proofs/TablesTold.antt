-- What the tables tell is what the entries that they stand for left.
use Rattle.std.proofs.Common.{◌≡◌, inl, inr, Bool, true, List, [], ◌∷◌, ◌++◌, map, flat_map, Option, None, Some, refl, sym, ap, ◌∙◌, subst, arith, append-nil}
use Rattle.std.specs.declared.cmp.Ordering.TheVariants.{Less}
use Rattle.std.specs.List.{AllByRecursion, Contains, filter}
use Rattle.std.specs.List.Sorted.{IsStrictlySortedBy}
use Rattle.std.specs.Map.{keys_of}
use Rattle.bmp_specs.specs.declared.peers.View.{View}
use Rattle.bmp_specs.specs.declared.peers.View.TheVariants.{InPre, InPost, OutPre, OutPost, Loc}
use Rattle.bmp_specs.specs.declared.wire.Family.{Family}
use Rattle.bmp_specs.specs.declared.wire.Family.TheVariants.{V4, V6}
use Rattle.bmp_specs.specs.Orders.{key_cmp, nlri_cmp}
use Rattle.bmp_specs.specs.PeerUp.{IsPeerAs, IsUpWith, StateValue, down_state, up_state}
use Rattle.bmp_specs.specs.Rows.{RowValue}
use Rattle.bmp_specs.specs.Selection.{SelectValue}
use Rattle.bmp_specs.specs.Session.{session_effects}
use Rattle.bmp_specs.specs.TableRows.{AreRows}
use Rattle.bmp_specs.specs.Values.{EffectValue, EntryValue, KeyValue, PeerInfoValue}
use Rattle.bmp_specs.proofs.ListedOne.{contains_cases}
use Rattle.peer_book.specs.Peers.{Peers, is_complete_at}
use Rattle.route_runs.specs.Runs.{in_order}
use Rattle.router_tables.specs.Tables.{StandsFor, TablesValue, table_at}
use Rattle.router_tables.specs.Views.{Table}
use Rattle.query_eval.specs.Rows.{Asking, asked_rows, lane_rows, row_of}
use Rattle.query_eval.specs.RowTables.{PeerTableValue, peer_tables, view_table}
use Rattle.query_eval.specs.Told.{states_in}
use Rattle.query_eval.proofs.Keeping.{from_filter, from_flat, from_map, sorted_kept, to_filter, to_flat, to_map}
use Rattle.query_eval.proofs.PeerSteps.{states_ordered}
use Rattle.query_eval.proofs.PeersTold.{peer_told}
use Rattle.query_eval.proofs.RowMembers.{are_asked_as}
use Rattle.relay_out.specs.Tables.{all_views, places_in, stream_of, table_rows, told_of_peer, told_of_state, view_rows}
use Rattle.relay_out.specs.Told.{IsPeerTold, IsTold, PeerToldValue, PlaceValue, place_cmp, up_told}
use Rattle.relay_out.proofs.Members.{all_flat, none_there}

-- ---- the rows of a peer
abbrev all_asked : Asking
all_asked = λ pairs e. true

abbrev of_key : KeyValue → SelectValue
of_key key = record { router = None; peer = Some key; view = None; family = None }

all_kept : {X : Type 0} (xs : List X) → filter (λ (x : X). true) xs ≡ xs
all_kept [] = refl
all_kept {X} (x ∷ xs) = ap (λ (l : List X). x ∷ l) (all_kept xs)

asked_table_rows : (key : KeyValue) (view : View) (found : Option Table) (rest : List PeerTableValue) → asked_rows all_asked (view_table key view found ++ rest) ≡ table_rows key view found ++ asked_rows all_asked rest
asked_table_rows key view None rest = refl
asked_table_rows key view (Some pairs) rest = ap (λ (l : Table). map (row_of key view) l ++ asked_rows all_asked rest) (all_kept (in_order nlri_cmp pairs))

same_rows : (value : TablesValue) (key : KeyValue) → lane_rows all_asked (of_key key) 0 value ≡ view_rows value.tables key all_views
unfolding all_views
same_rows value key =
    let at : View → Option Table = λ view. table_at value.tables key view in
    let go5 = asked_table_rows key Loc (at Loc) [] in
    let go4 = asked_table_rows key OutPost (at OutPost) (view_table key Loc (at Loc) ++ []) ∙ ap (λ (l : List RowValue). table_rows key OutPost (at OutPost) ++ l) go5 in
    let go3 = asked_table_rows key OutPre (at OutPre) (view_table key OutPost (at OutPost) ++ (view_table key Loc (at Loc) ++ [])) ∙ ap (λ (l : List RowValue). table_rows key OutPre (at OutPre) ++ l) go4 in
    let go2 = asked_table_rows key InPost (at InPost) (view_table key OutPre (at OutPre) ++ (view_table key OutPost (at OutPost) ++ (view_table key Loc (at Loc) ++ []))) ∙ ap (λ (l : List RowValue). table_rows key InPost (at InPost) ++ l) go3 in
    let go1 = asked_table_rows key InPre (at InPre) (view_table key InPost (at InPost) ++ (view_table key OutPre (at OutPre) ++ (view_table key OutPost (at OutPost) ++ (view_table key Loc (at Loc) ++ [])))) ∙ ap (λ (l : List RowValue). table_rows key InPre (at InPre) ++ l) go2 in
    ap (asked_rows all_asked) (append-nil (peer_tables value.tables None key)) ∙ go1

module _ (value : TablesValue) (entries : List EntryValue) (stands : StandsFor value entries) (ordered : IsStrictlySortedBy key_cmp (keys_of value.session.books.peers)) where
  abbrev effects : List EffectValue
  effects = session_effects entries

  abbrev peers : Peers
  peers = value.session.books.peers

  rows_are : (key : KeyValue) → AreRows (λ row. row.row_key.key ≡ key) effects (view_rows value.tables key all_views)
  rows_are key =
      subst (AreRows (λ row. row.row_key.key ≡ key) effects) (same_rows value key)
      (are_asked_as (of_key key) 0 value entries stands ordered all_asked (λ row. Unit {0}) (λ t among e c. (λ _. tt, λ _. refl)) (λ row. row.row_key.key ≡ key)
      (λ row. (λ w. sym w.1.peer_is, λ same. (tt, record { router_is = tt; peer_is = sym same }, tt))))

  -- ---- the complete tables of a peer
  abbrev all_places : List PlaceValue
  all_places = places_in all_views

  places_sorted : IsStrictlySortedBy place_cmp (map (λ (t : PlaceValue). t) all_places)
  unfolding IsStrictlySortedBy all_views
  places_sorted = (
    (refl, (refl, (refl, (refl, (refl, (refl, (refl, (refl, (refl, tt))))))))),
    (
      (refl, (refl, (refl, (refl, (refl, (refl, (refl, (refl, tt)))))))),
      ((refl, (refl, (refl, (refl, (refl, (refl, (refl, tt))))))), ((refl, (refl, (refl, (refl, (refl, (refl, tt)))))), ((refl, (refl, (refl, (refl, (refl, tt))))), ((refl, (refl, (refl, (refl, tt)))), ((refl, (refl, (refl, tt))), ((refl, (refl, tt)), ((refl, tt), (tt, tt)))))))),
    ),
  )

  place_there : (view : View) (family : Family) → Contains all_places (record { view = view; family = family })
  unfolding all_views
  place_there InPre V4 = (0, omega arith, refl)
  place_there InPre V6 = (1, omega arith, refl)
  place_there InPost V4 = (2, omega arith, refl)
  place_there InPost V6 = (3, omega arith, refl)
  place_there OutPre V4 = (4, omega arith, refl)
  place_there OutPre V6 = (5, omega arith, refl)
  place_there OutPost V4 = (6, omega arith, refl)
  place_there OutPost V6 = (7, omega arith, refl)
  place_there Loc V4 = (8, omega arith, refl)
  place_there Loc V6 = (9, omega arith, refl)

  peer_is_told : (key : KeyValue) (info : PeerInfoValue) → IsPeerTold effects (told_of_peer value key info)
  peer_is_told key info =
      let test : PlaceValue → Bool = λ t. is_complete_at peers key t.view t.family in
      record {
        rows = rows_are key;
        complete = record {
          ordered = sorted_kept test (λ (t : PlaceValue). t) place_cmp all_places places_sorted;
          exact = λ t. (
            λ c. (stands.session.books.peers.complete key t.view t.family).0 (from_filter test all_places t c).1,
            λ is. to_filter test all_places t (place_there t.view t.family) ((stands.session.books.peers.complete key t.view t.family).1 is),
          );
        };
      }

  -- ---- the peers
  abbrev told : List PeerToldValue
  told = flat_map (told_of_state value) (states_in peers)

  each_told : (e : KeyValue × StateValue) → AllByRecursion (IsPeerTold effects) (told_of_state value e)
  each_told (key, up_state info) = (peer_is_told key info, tt)
  each_told (key, down_state info) = tt

  ups_above : (P : KeyValue → Type 0) (es : List (KeyValue × StateValue)) → AllByRecursion P (keys_of es) → AllByRecursion P (map (λ u. u.0) (map up_told (flat_map (told_of_state value) es)))
  ups_above P [] a = tt
  ups_above P ((key, up_state info) ∷ es) a = (a.0, ups_above P es a.1)
  ups_above P ((key, down_state info) ∷ es) a = ups_above P es a.1

  ups_sorted : (es : List (KeyValue × StateValue)) → IsStrictlySortedBy key_cmp (keys_of es) → IsStrictlySortedBy key_cmp (map (λ u. u.0) (map up_told (flat_map (told_of_state value) es)))
  unfolding IsStrictlySortedBy
  ups_sorted [] s = tt
  ups_sorted ((key, up_state info) ∷ es) s = (ups_above (λ k. key_cmp key k ≡ Less) es s.0, ups_sorted es s.1)
  ups_sorted ((key, down_state info) ∷ es) s = ups_sorted es s.1

  from_state : (e : KeyValue × StateValue) (p : PeerToldValue) → IsPeerAs effects e.0 e.1 → Contains (told_of_state value e) p → IsUpWith effects p.key p.info
  from_state (key, up_state info) p is c = elim (contains_cases (told_of_peer value key info) [] p c) [
    | inl same ↦ subst (λ (q : PeerToldValue). IsUpWith effects q.key q.info) same is
    | inr none ↦ absurd (none_there p none)
  ]
  from_state (key, down_state info) p is c = absurd (none_there p c)

  sorted_states : IsStrictlySortedBy key_cmp (keys_of (states_in peers))
  sorted_states = states_ordered peers ordered

  pub is_told : IsTold effects (stream_of value)
  is_told = record {
    name = stands.session.books.name;
    description = stands.session.books.description;
    peers = record {
      ordered = ups_sorted (states_in peers) sorted_states;
      exact = λ u. (
        λ c.
            let h = from_map up_told told u c in
            let e = from_flat (told_of_state value) (states_in peers) h.0 h.1 in
            let is = from_state e.0 h.0 ((peer_told peers sorted_states effects stands.session.books.peers e.0).0 e.1) e.2 in
            subst (λ (w : KeyValue × PeerInfoValue). IsUpWith effects w.0 w.1) h.2 is,
        λ is.
            let there = (peer_told peers sorted_states effects stands.session.books.peers (u.0, up_state u.1)).1 is in
            to_map up_told told (told_of_peer value u.0 u.1) (to_flat (told_of_state value) (states_in peers) (u.0, up_state u.1) (told_of_peer value u.0 u.1) there (0, omega arith, refl)),
      );
    };
    each = all_flat (told_of_state value) (IsPeerTold effects) (states_in peers) (λ e c. each_told e);
  }
