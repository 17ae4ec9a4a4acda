-- What is handed on of the peers of a book, of the views of a peer and of the routes of a table, one after another.
use Rattle.std.proofs.Common.{◌≡◌, ◌<◌, ◌+◌, ◌≤◌, ℕ, suc, List, [], ◌∷◌, ◌++◌, length, get_or, drop, map, flat_map, Some, option_to_list, sym, ap, subst, ◌∙◌, append-nil}
use Rattle.std.specs.List.{AllByRecursion}
use Rattle.std.proofs.lemmas.Grind.{flat_map-append}
use Rattle.std.proofs.lemmas.List.{map-append, at_drop_more, drop_all}
use Rattle.std.proofs.lemmas.List.Elements.{filter-append}
use Rattle.bmp_specs.specs.declared.peers.View.{View}
use Rattle.bmp_specs.specs.PeerUp.{StateValue}
use Rattle.bmp_specs.specs.Rows.{RowValue}
use Rattle.bmp_specs.specs.Values.{AttrsValue, KeyValue, NlriValue, PeerInfoValue}
use Rattle.peer_book.specs.Peers.{Peers, is_complete_at}
use Rattle.router_tables.specs.Tables.{Tables, TablesValue, table_at}
use Rattle.router_tables.specs.Views.{Table}
use Rattle.relay_out.specs.Messages.{ItemValue, announces, completed, peer_items}
use Rattle.query_eval.specs.RowRuns.{shown_all}
use Rattle.query_eval.specs.Rows.{row_of}
use Rattle.query_eval.proofs.Batches.{SetRef, shown_next}
use Rattle.route_runs.specs.Runs.{shared}
use Rattle.relay_out.specs.Tables.{complete_among, complete_of, place, places_in, table_rows, told_of_peer, told_of_state, view_rows}
use Rattle.bmp_specs.specs.declared.wire.Family.TheVariants.{V4, V6}
use Rattle.bmp_specs.specs.PeerUp.{up_state}
use Rattle.relay_out.specs.Told.{PlaceValue}
use Rattle.relay_out.proofs.Members.{all_parts}

-- of the first peer, and of the others
abbrev pub items_of_states : TablesValue → List (KeyValue × StateValue) → List ItemValue
items_of_states t states = flat_map peer_items (flat_map (told_of_state t) states)

pub states_first : (t : TablesValue) (left rest : List (KeyValue × StateValue)) (e : KeyValue × StateValue) → left ≡ e ∷ rest → items_of_states t left ≡ flat_map peer_items (told_of_state t e) ++ items_of_states t rest
states_first t left rest e is = ap (items_of_states t) is ∙ flat_map-append peer_items (told_of_state t e) (flat_map (told_of_state t) rest)

abbrev pub items_of_views : PeerInfoValue → Tables → KeyValue → List View → List ItemValue
items_of_views info tables key views = map (announces info) (view_rows tables key views)

pub views_first : (info : PeerInfoValue) (tables : Tables) (key : KeyValue) (views : List View) (i : ℕ) (d : View) → i < length views
    → items_of_views info tables key (drop i views) ≡ items_of_views info tables key (get_or views i d ∷ []) ++ items_of_views info tables key (drop (i + 1) views)
views_first info tables key views i d small =
    let here = get_or views i d in
    let rows : View → List RowValue = λ view. table_rows key view (table_at tables key view) in
    at_drop_more (items_of_views info tables key) views i d small
    ∙ ap (map (announces info)) (flat_map-append rows (here ∷ []) (drop (i + 1) views))
    ∙ map-append (announces info) (view_rows tables key (here ∷ [])) (view_rows tables key (drop (i + 1) views))

pub views_over : (info : PeerInfoValue) (tables : Tables) (key : KeyValue) (views : List View) (i : ℕ) → length views ≤ i → items_of_views info tables key (drop i views) ≡ []
views_over info tables key views i over = ap (items_of_views info tables key) (drop_all i views over)

abbrev pub items_of_complete : Peers → KeyValue → List View → List ItemValue
items_of_complete peers key views = map (completed key) (complete_of peers key views)

complete_append : (peers : Peers) (key : KeyValue) (xs ys : List PlaceValue) → map (completed key) (complete_among peers key (xs ++ ys)) ≡ map (completed key) (complete_among peers key xs) ++ map (completed key) (complete_among peers key ys)
complete_append peers key xs ys =
    ap (map (completed key)) (filter-append (λ (t : PlaceValue). is_complete_at peers key t.view t.family) xs ys)
    ∙ map-append (completed key) (complete_among peers key xs) (complete_among peers key ys)

pub families_split : (peers : Peers) (key : KeyValue) (view : View)
    → items_of_complete peers key (view ∷ []) ≡ map (completed key) (complete_among peers key (place view V4 ∷ [])) ++ map (completed key) (complete_among peers key (place view V6 ∷ []))
families_split peers key view = complete_append peers key (place view V4 ∷ []) (place view V6 ∷ [])

pub complete_first : (peers : Peers) (key : KeyValue) (views : List View) (i : ℕ) (d : View) → i < length views
    → items_of_complete peers key (drop i views) ≡ items_of_complete peers key (get_or views i d ∷ []) ++ items_of_complete peers key (drop (i + 1) views)
complete_first peers key views i d small =
    let here = get_or views i d in
    at_drop_more (items_of_complete peers key) views i d small
    ∙ complete_append peers key (place here V4 ∷ place here V6 ∷ []) (places_in (drop (i + 1) views))

pub complete_over : (peers : Peers) (key : KeyValue) (views : List View) (i : ℕ) → length views ≤ i → items_of_complete peers key (drop i views) ≡ []
complete_over peers key views i over = ap (items_of_complete peers key) (drop_all i views over)

-- the first route of a walk
abbrev pub items_of_pairs : PeerInfoValue → KeyValue → View → Table → List ItemValue
items_of_pairs info key view pairs = map (announces info) (map (row_of key view) pairs)

pub pairs_first : (info : PeerInfoValue) (key : KeyValue) (view : View) (left rest : Table) (n : NlriValue) (a b : AttrsValue) → left ≡ option_to_list (Some (n, a)) ++ rest → b ≡ a
    → items_of_pairs info key view left ≡ (announces info (record { row_key = record { key = key; view = view; nlri = n }; route = b }) ∷ []) ++ items_of_pairs info key view rest
pairs_first info key view left rest n a b is same =
    ap (items_of_pairs info key view) is ∙ ap (λ (x : AttrsValue). announces info (record { row_key = record { key = key; view = view; nlri = n }; route = x }) ∷ items_of_pairs info key view rest) (sym same)

-- some routes of a walk, and those behind them
pub pairs_split : (info : PeerInfoValue) (key : KeyValue) (view : View) (left some rest : Table) → left ≡ some ++ rest → items_of_pairs info key view left ≡ items_of_pairs info key view some ++ items_of_pairs info key view rest
pairs_split info key view left some rest is =
    ap (items_of_pairs info key view) is ∙ ap (map (announces info)) (map-append (row_of key view) some rest)
    ∙ map-append (announces info) (map (row_of key view) some) (map (row_of key view) rest)

-- what may be handed on of all may be of some
pub some_may : (may : ItemValue → Type 0) (info : PeerInfoValue) (key : KeyValue) (view : View) (left some rest : Table) → left ≡ some ++ rest → AllByRecursion may (items_of_pairs info key view left) → AllByRecursion may (items_of_pairs info key view some)
some_may may info key view left some rest is all =
    (all_parts may (items_of_pairs info key view some) (items_of_pairs info key view rest) (subst (AllByRecursion may) (pairs_split info key view left some rest is) all)).0

-- the route at a place, and those behind it
pub places_next : (info : PeerInfoValue) (key : KeyValue) (view : View) (ns : List NlriValue) (rs : List SetRef) (i : ℕ) (d n : NlriValue) (b r : SetRef) (a : AttrsValue) → i < length ns → length ns ≡ length rs → n ≡ get_or ns i d → r ≡ get_or rs i b → a ≡ shared r
    → items_of_pairs info key view (shown_all (drop i ns) (drop i rs)) ≡ (announces info (record { row_key = record { key = key; view = view; nlri = n }; route = a }) ∷ []) ++ items_of_pairs info key view (shown_all (drop (suc i) ns) (drop (suc i) rs))
places_next info key view ns rs i d n b r a within even is are same =
    pairs_first info key view (shown_all (drop i ns) (drop i rs)) (shown_all (drop (suc i) ns) (drop (suc i) rs)) n (shared r) a (shown_next ns rs i d n b r within even is are) same

-- of a peer that is up
pub line_items : (t : TablesValue) (key : KeyValue) (state : StateValue) (info : PeerInfoValue) → state ≡ up_state info → peer_items (told_of_peer t key info) ≡ flat_map peer_items (told_of_state t (key, state))
line_items t key state info is =
    sym (append-nil (peer_items (told_of_peer t key info))) ∙ ap (λ (s : StateValue). flat_map peer_items (told_of_state t (key, s))) (sym is)
