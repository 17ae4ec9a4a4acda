-- What the tables of a router tell in a relayed stream.
use Rattle.std.specs.Prelude.{List, [], ◌∷◌, map, flat_map, Option, Some, None}
use Rattle.std.specs.List.{filter}
use Rattle.bmp_specs.specs.declared.peers.View.{View}
use Rattle.bmp_specs.specs.declared.peers.View.TheVariants.{InPre, InPost, OutPre, OutPost, Loc}
use Rattle.bmp_specs.specs.declared.wire.Family.{Family}
use Rattle.bmp_specs.specs.declared.wire.Family.TheVariants.{V4, V6}
use Rattle.bmp_specs.specs.Orders.{nlri_cmp}
use Rattle.bmp_specs.specs.PeerUp.{StateValue, up_state, down_state}
use Rattle.bmp_specs.specs.Rows.{RowValue}
use Rattle.bmp_specs.specs.Values.{KeyValue, PeerInfoValue}
use Rattle.peer_book.specs.Peers.{Peers, is_complete_at}
use Rattle.query_eval.specs.Rows.{row_of}
use Rattle.query_eval.specs.Told.{states_in}
use Rattle.route_runs.specs.Runs.{in_order}
use Rattle.router_tables.specs.Tables.{Tables, TablesValue, table_at}
use Rattle.router_tables.specs.Views.{Table}
use Rattle.relay_out.specs.Told.{PeerToldValue, PlaceValue, StreamValue}

-- the rows of a table, in the order of NLRI, none where there is no table
abbrev pub table_rows : KeyValue → View → Option Table → List RowValue
table_rows key view None = []
table_rows key view (Some pairs) = map (row_of key view) (in_order nlri_cmp pairs)

unfoldable pub all_views : List View
all_views = InPre ∷ InPost ∷ OutPre ∷ OutPost ∷ Loc ∷ []

-- the rows of a peer in these views
abbrev pub view_rows : Tables → KeyValue → List View → List RowValue
view_rows tables key views = flat_map (λ view. table_rows key view (table_at tables key view)) views

-- the tables of these views, of each family
abbrev pub place : View → Family → PlaceValue
place view family = record { view = view; family = family }

abbrev pub places_in : List View → List PlaceValue
places_in views = flat_map (λ view. place view V4 ∷ place view V6 ∷ []) views

-- those of these tables of a peer that are complete
abbrev pub complete_among : Peers → KeyValue → List PlaceValue → List PlaceValue
complete_among peers key places = filter (λ t. is_complete_at peers key t.view t.family) places

abbrev pub complete_of : Peers → KeyValue → List View → List PlaceValue
complete_of peers key views = complete_among peers key (places_in views)

abbrev pub told_of_peer : TablesValue → KeyValue → PeerInfoValue → PeerToldValue
told_of_peer t key info = record { key = key; info = info; rows = view_rows t.tables key all_views; complete = complete_of t.session.books.peers key all_views }

-- of a peer that is up
abbrev pub told_of_state : TablesValue → KeyValue × StateValue → List PeerToldValue
told_of_state t (key, up_state info) = told_of_peer t key info ∷ []
told_of_state t (key, down_state info) = []

abbrev pub stream_of : TablesValue → StreamValue
stream_of t = record { name = t.session.books.name; description = t.session.books.description; peers = flat_map (told_of_state t) (states_in t.session.books.peers) }
