-- The tables of a lane that a query asks, in the order of its reply, and the walk over them.
use Rattle.std.specs.Prelude.{◌≡◌, ℕ, if◌then◌else◌, List, [], ◌∷◌, ◌++◌, Option, None, Some, MatchOption}
use Rattle.std.specs.List.{filter, flat_map}
use Rattle.std.specs.Map.{keys_of}
use Rattle.std.specs.Ordering.{is_lt, nat_cmp}
use Rattle.bmp_specs.specs.declared.peers.View.{View}
use Rattle.bmp_specs.specs.declared.peers.View.TheVariants.{InPre, InPost, OutPre, OutPost, Loc}
use Rattle.bmp_specs.specs.Orders.{key_cmp, view_cmp, nlri_cmp}
use Rattle.bmp_specs.specs.Selection.{SelectValue}
use Rattle.bmp_specs.specs.Values.{KeyValue}
use Rattle.peer_book.specs.Peers.{Peers}
use Rattle.route_runs.specs.Runs.{in_order}
use Rattle.router_tables.specs.Tables.{Tables, TablesValue, table_at}
use Rattle.router_tables.specs.Views.{Table}
use Rattle.query_eval.specs.declared.tables.PeerTable.{PeerTable}
use Rattle.query_eval.specs.declared.tables.AskedTables.{AskedTables}
use Rattle.query_eval.specs.Selecting.{is_named}

-- the routes that a peer has in a view, in the order of NLRI
pub record PeerTableValue : Type 0 where
  pub key : KeyValue
  pub view : View
  pub pairs : Table

-- the views from one on, in their order
abbrev pub views_from : Option View → List View
views_from None = []
views_from (Some InPre) = InPre ∷ InPost ∷ OutPre ∷ OutPost ∷ Loc ∷ []
views_from (Some InPost) = InPost ∷ OutPre ∷ OutPost ∷ Loc ∷ []
views_from (Some OutPre) = OutPre ∷ OutPost ∷ Loc ∷ []
views_from (Some OutPost) = OutPost ∷ Loc ∷ []
views_from (Some Loc) = Loc ∷ []

abbrev pub view_after : View → Option View
view_after InPre = Some InPost
view_after InPost = Some OutPre
view_after OutPre = Some OutPost
view_after OutPost = Some Loc
view_after Loc = None

-- the table of a peer and a view, where there is one
abbrev pub view_table : KeyValue → View → Option Table → List PeerTableValue
view_table key view None = []
view_table key view (Some pairs) = record { key = key; view = view; pairs = in_order nlri_cmp pairs } ∷ []

-- the same, where the view is the one that is named, or none is named
abbrev pub asked_table : Tables → Option View → KeyValue → View → List PeerTableValue
asked_table tables named key view = if is_named view_cmp named view then view_table key view (table_at tables key view) else []

-- the tables of a peer that are asked, from a view on
abbrev pub tables_from : Tables → Option View → KeyValue → Option View → List PeerTableValue
tables_from tables named key from = flat_map (asked_table tables named key) (views_from from)

abbrev pub peer_tables : Tables → Option View → KeyValue → List PeerTableValue
peer_tables tables named key = tables_from tables named key (Some InPre)

-- the peers whose tables are asked: the one that is named, or all of the session
abbrev pub asked_keys : Option KeyValue → Peers → List KeyValue
asked_keys None peers = keys_of peers
asked_keys (Some key) peers = key ∷ []

-- the tables of this lane that are asked
abbrev pub lane_tables : SelectValue → ℕ → TablesValue → List PeerTableValue
lane_tables select lane tables = if is_named nat_cmp select.router lane then flat_map (peer_tables tables.tables select.view) (asked_keys select.peer tables.session.books.peers) else []

-- ---- inside
-- the peers whose tables of a lane are asked
abbrev pub lane_keys : SelectValue → ℕ → Peers → List KeyValue
lane_keys select lane peers = if is_named nat_cmp select.router lane then asked_keys select.peer peers else []

-- the peers that come after one
abbrev pub keys_after : Option KeyValue → KeyValue → Peers → List KeyValue
keys_after None key peers = keys_of (filter (λ e. is_lt (key_cmp key e.0)) peers)
keys_after (Some named) key peers = []

-- the peer that comes next and those after it
abbrev pub keys_from : Option KeyValue → Option KeyValue → Peers → List KeyValue
keys_from named None peers = []
keys_from named (Some key) peers = key ∷ keys_after named key peers

-- the tables from a peer and a view on
abbrev pub left_from : TablesValue → Option KeyValue → Option View → Option KeyValue → Option View → List PeerTableValue
left_from tables peer view None from = []
left_from tables peer view (Some key) from = tables_from tables.tables view key from ++ flat_map (peer_tables tables.tables view) (keys_after peer key tables.session.books.peers)

-- the tables that a walk has left
abbrev pub left_of : AskedTables → List PeerTableValue
left_of walk = left_from walk.tables.now walk.peer walk.view walk.key walk.from

-- a table that a walk gives
abbrev pub table_value : PeerTable → PeerTableValue
table_value t = record { key = t.key; view = t.view; pairs = in_order nlri_cmp t.table.now }

-- it is the first of these tables, and those that are left stand after it; none where there is no table
abbrev pub IsFirstTable : Option PeerTable → List PeerTableValue → (View → List PeerTableValue) → Type 0
IsFirstTable found all left = MatchOption found (all ≡ []) (λ t. all ≡ table_value t ∷ left t.view)
