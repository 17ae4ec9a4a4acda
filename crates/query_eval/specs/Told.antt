-- The lines that the books of a lane's tables tell.
use Rattle.std.specs.Prelude.{ℕ, Bool, true, false, List, [], ◌∷◌, length, map, flat_map, Option}
use Rattle.std.specs.List.{filter}
use Rattle.std.specs.Option.{option_map_or}
use Rattle.ask_specs.specs.FullMarks.{RowCountValue}
use Rattle.bmp_specs.specs.declared.wire.Family.{Family}
use Rattle.bmp_specs.specs.declared.wire.Family.TheVariants.{V4, V6}
use Rattle.bmp_specs.specs.declared.peers.View.{View}
use Rattle.bmp_specs.specs.Orders.{nlri_cmp}
use Rattle.bmp_specs.specs.PeerHeader.{views_of_key}
use Rattle.bmp_specs.specs.PeerLines.{mark_line, stat_line}
use Rattle.bmp_specs.specs.PeerUp.{StateValue, up_state, down_state}
use Rattle.bmp_specs.specs.QueryReply.{MarkValue, peer_line}
use Rattle.bmp_specs.specs.Reply.{told_count}
use Rattle.bmp_specs.specs.Selection.{SelectValue}
use Rattle.bmp_specs.specs.StatKind.{KindValue, stat_of}
use Rattle.bmp_specs.specs.Values.{KeyValue, StatValue}
use Rattle.peer_book.specs.Peers.{Peers, keyed_state, is_complete_at}
use Rattle.route_runs.specs.Nlri.{with_family}
use Rattle.route_runs.specs.Runs.{in_order}
use Rattle.router_tables.specs.Tables.{Tables, table_at}
use Rattle.router_tables.specs.Views.{Table}
use Rattle.query_eval.specs.Selecting.{keeps_peer, keeps}

-- the peers of a book and their states, in their order
abbrev pub states_in : Peers → List (KeyValue × StateValue)
states_in peers = map keyed_state peers

-- the lines of those that are asked for
abbrev pub state_lines : Option ℕ → Option KeyValue → ℕ → List (KeyValue × StateValue) → List (List ℕ)
state_lines router peer lane states = map (peer_line lane) (filter (λ p. keeps_peer router peer lane p.0) states)

abbrev pub is_up_state : KeyValue × StateValue → Bool
is_up_state (key, up_state info) = true
is_up_state (key, down_state info) = false

-- a mark of these parts
abbrev pub mark_as : KeyValue → View → Family → Bool → MarkValue
mark_as key view family complete = record { key = key; view = view; family = family; complete = complete }

-- whether the routes of a peer in a view are complete, of one family and of each
abbrev pub mark_of : Peers → KeyValue → View → Family → MarkValue
mark_of peers key view family = mark_as key view family (is_complete_at peers key view family)

abbrev pub view_marks : Peers → KeyValue → View → List MarkValue
view_marks peers key view = map (mark_of peers key view) (V4 ∷ V6 ∷ [])

abbrev pub peer_marks : Peers → KeyValue → List View → List MarkValue
peer_marks peers key views = flat_map (view_marks peers key) views

-- the marks of a peer, none where it is down
abbrev pub state_marks : Peers → KeyValue × StateValue → List MarkValue
state_marks peers (key, up_state info) = peer_marks peers key (views_of_key key)
state_marks peers (key, down_state info) = []

abbrev pub keeps_mark : SelectValue → ℕ → MarkValue → Bool
keeps_mark select lane m = keeps select lane m.key m.view m.family

-- the line of a mark
abbrev pub plain_mark : ℕ → MarkValue → List ℕ
plain_mark lane m = mark_line lane m.key m.view m.family m.complete

-- the lines of those that are asked for, each told in this way
abbrev pub mark_lines : (ℕ → MarkValue → List ℕ) → SelectValue → ℕ → List MarkValue → List (List ℕ)
mark_lines line select lane marks = map (line lane) (filter (keeps_mark select lane) marks)

-- the lines of the marks of peers
abbrev pub marks_in : Peers → List (KeyValue × StateValue) → List MarkValue
marks_in peers states = flat_map (state_marks peers) states

-- a statistic by its kind and its value
abbrev pub stat_in : KindValue × ℕ → StatValue
stat_in e = stat_of e.0 e.1

-- the lines of a peer's statistics
abbrev pub stat_lines : ℕ → KeyValue → List (KindValue × ℕ) → List (List ℕ)
stat_lines lane key stats = map (λ e. stat_line lane key (stat_in e)) stats

-- how many rows of the family of a mark its peer has in its view, of these tables
abbrev pub rows_at : Tables → KeyValue → View → Family → ℕ
rows_at tables key view family = option_map_or (λ (pairs : Table). told_count (length (with_family family (in_order nlri_cmp pairs)))) (table_at tables key view) 0

-- a mark with the number of its rows
abbrev pub counted_mark : Tables → MarkValue → RowCountValue
counted_mark tables m = record { mark = m; rows = rows_at tables m.key m.view m.family }
