-- There are lines of a lane for all entries that its tables stand for.
use Rattle.std.proofs.Common.{◌≡◌, ℕ, Bool, true, false, List, [], ◌∷◌, length, map, Option, Some, refl}
use Rattle.std.specs.Prelude.{MatchBool, ◌==◌}
use Rattle.ask_specs.specs.Asking.{steps, full_marks, full_routers}
use Rattle.ask_specs.specs.AskReply.{AreAskedChangeLines, AreAskedLaneLines}
use Rattle.ask_specs.specs.Traits.{TraitsValue, no_traits}
use Rattle.bmp_specs.specs.Counts.{counts_of}
use Rattle.bmp_specs.specs.PeerLines.{idle_line, closed_line, live_line, lane_line}
use Rattle.bmp_specs.specs.Query.{QueryValue, routers, cut as cut_query, peers, marks, table, count, exact, longest, within, origin, stats, changes, quit}
use Rattle.bmp_specs.specs.QueryReply.{IsRouterLine, AreLaneLines, AreChangeLines, AreRowLines}
use Rattle.bmp_specs.specs.Reply.{told_count}
use Rattle.bmp_specs.specs.RouteLine.{route_line}
use Rattle.bmp_specs.specs.Rows.{RowValue}
use Rattle.bmp_specs.specs.Selection.{SelectValue}
use Rattle.bmp_specs.specs.Session.{LaneStateValue, idle, live, shut, state_of, session_effects, lane_name, lane_description}
use Rattle.bmp_specs.specs.Values.{EntryValue, PrefixValue}
use Rattle.bmp_specs.proofs.OrderLaws.{key_total}
use Rattle.bmp_specs.specs.Orders.{key_cmp}
use Rattle.std.specs.List.Sorted.{IsStrictlySortedBy}
use Rattle.std.specs.Map.{keys_of}
use Rattle.peer_book.specs.Peers.{Peers, up_keys}
use Rattle.peer_book.specs.Standing.{StandsForPeers}
use Rattle.peer_book.proofs.UpPeers.{all_up}
use Rattle.router_tables.specs.Tables.{TablesValue, StandsFor}
use Rattle.query_eval.specs.Puts.{AreKeptRows}
use Rattle.query_lang.specs.Asks.{ask_value, row_query_value}
use Rattle.query_lang.specs.TraitValues.{traits_value}
use Rattle.query_lang.specs.declared.ask.RowsAsk.{RowsAsk}
use Rattle.query_lang.specs.declared.ask.Ask.TheVariants.{Rows}
use Rattle.query_lang.specs.declared.ask.RowQuery.{RowQuery}
use Rattle.query_lang.specs.declared.ask.RowQuery.TheVariants.{Table, Exact, Longest, Within, Origin}
use Rattle.query_eval.specs.Replies.{StandsForLane, TellsByLane}
use Rattle.query_eval.specs.Told.{states_in, state_lines, marks_in, mark_lines, plain_mark}
use Rattle.query_eval.proofs.InOrder.{by_key, by_key_sorted, peers_by_key, tables_by_key, stand_by_key}
use Rattle.query_eval.proofs.FullMarksTold.{are_full_mark_lines}
use Rattle.query_eval.proofs.FullRoutersTold.{last_there}
use Rattle.query_eval.proofs.MarksTold.{are_mark_lines}
use Rattle.query_eval.proofs.PeerSteps.{states_ordered}
use Rattle.query_eval.proofs.PeersTold.{are_peer_lines}
use Rattle.query_eval.proofs.RowAnswers.{are_table, are_counted, are_exact, are_longest, are_within, are_origin, rows_plain}
use Rattle.query_eval.proofs.RowChangeLaws.{changes_there}
use Rattle.query_eval.proofs.StatsTold.{stat_lines_there}
use Rattle.query_eval.proofs.StepsTold.{asked_there}

module _ (lane : ℕ) (tables : TablesValue) (entries : List EntryValue) (stands : StandsFor tables entries) where
  abbrev book : Peers
  book = by_key key_cmp tables.session.books.peers

  peers_ordered : IsStrictlySortedBy key_cmp (keys_of book)
  peers_ordered = by_key_sorted key_cmp key_total tables.session.books.peers

  ordered : IsStrictlySortedBy key_cmp (keys_of (states_in book))
  ordered = states_ordered book peers_ordered

  book_stands : StandsForPeers book (session_effects entries)
  book_stands = peers_by_key tables.session.books.peers (session_effects entries) stands.session.books.peers

  router_there : (state : LaneStateValue) → (text : List ℕ) × IsRouterLine lane entries state text
  router_there idle = (idle_line lane, refl)
  router_there (shut cause) = (closed_line lane cause, refl)
  router_there live = (
    live_line lane (told_count (length (up_keys book))) (counts_of entries) (lane_name entries) (lane_description entries),
    (up_keys book, all_up book (session_effects entries) peers_ordered book_stands, refl),
  )

  changes_lines : (number from : ℕ) (prefix : PrefixValue) → (lines : List (List ℕ)) × AreLaneLines (changes number from prefix) lane entries lines
  changes_lines number from prefix = go (number == lane) (changes_there false lane tables entries from (Some prefix) stands)
    where
      go : (b : Bool) → (lines : List (List ℕ)) × AreAskedChangeLines false lane entries from (Some prefix) lines → (lines : List (List ℕ)) × MatchBool b (AreChangeLines lane entries from prefix lines) (lines ≡ [])
      go true h = (h.0, record { known = h.1.known; are_known = h.1.are_known; told = h.1.told })
      go false h = ([], refl)

  asked_changes_lines : (full : Bool) (number from : ℕ) (prefix : Option PrefixValue) → (lines : List (List ℕ)) × AreAskedLaneLines (steps full number from prefix) lane entries lines
  asked_changes_lines full number from prefix = go (number == lane) (changes_there full lane tables entries from prefix stands)
    where
      go : (b : Bool) → (lines : List (List ℕ)) × AreAskedChangeLines full lane entries from prefix lines → (lines : List (List ℕ)) × MatchBool b (AreAskedChangeLines full lane entries from prefix lines) (lines ≡ [])
      go true h = h
      go false h = ([], refl)

  -- rows, of tables whose peers are in order
  abbrev in_order : TablesValue
  in_order = tables_by_key tables

  in_order_stands : StandsFor in_order entries
  in_order_stands = stand_by_key tables entries stands

  row_lines : (query : QueryValue) (rows : List RowValue) → AreKeptRows query no_traits lane entries rows → (lines : List (List ℕ)) × AreRowLines query lane entries lines
  row_lines query rows are = (map (route_line lane) rows, record { rows = rows; are_rows = rows_plain query lane entries rows are; told = refl })

  lane_lines_there : (query : QueryValue) → TellsByLane query → (lines : List (List ℕ)) × AreLaneLines query lane entries lines
  lane_lines_there routers tells = let h = router_there (state_of entries) in (h.0 ∷ [], (h.0, h.1, refl))
  lane_lines_there cut_query tells = (lane_line lane (length entries) ∷ [], refl)
  lane_lines_there (peers router peer) tells = (state_lines router peer lane (states_in book), are_peer_lines router peer lane entries book ordered book_stands)
  lane_lines_there (marks select) tells = (mark_lines plain_mark select lane (marks_in book (states_in book)), are_mark_lines select lane entries book ordered book_stands)
  lane_lines_there (table select) tells = row_lines (table select) _ (are_table select no_traits lane in_order entries in_order_stands peers_ordered)
  lane_lines_there (exact prefix select) tells = row_lines (exact prefix select) _ (are_exact select no_traits lane in_order entries in_order_stands peers_ordered prefix)
  lane_lines_there (longest address select) tells = row_lines (longest address select) _ (are_longest select no_traits lane in_order entries in_order_stands peers_ordered address)
  lane_lines_there (within prefix select) tells = row_lines (within prefix select) _ (are_within select no_traits lane in_order entries in_order_stands peers_ordered prefix)
  lane_lines_there (origin asn select) tells = row_lines (origin asn select) _ (are_origin select no_traits lane in_order entries in_order_stands peers_ordered asn)
  lane_lines_there (stats key) tells = let h = stat_lines_there lane key entries tables.session.books.stats stands.session.books.stats in (h.0, h.1)
  lane_lines_there (changes number from prefix) tells = changes_lines number from prefix
  lane_lines_there (count select) tells = absurd tells
  lane_lines_there quit tells = absurd tells

  full_marks_lines : (select : SelectValue) → (lines : List (List ℕ)) × AreAskedLaneLines (full_marks select) lane entries lines
  full_marks_lines select = (_, are_full_mark_lines select lane in_order entries in_order_stands ordered)

  full_routers_lines : (lines : List (List ℕ)) × AreAskedLaneLines full_routers lane entries lines
  full_routers_lines = let h = last_there in_order entries in_order_stands peers_ordered in (_, record { last = h.0; is_last = h.1; told = refl })

  -- the rows of a query that tells rows
  query_rows_there : (rows : RowQuery) (traits : TraitsValue) → (known : List RowValue) × AreKeptRows (row_query_value rows) traits lane entries known
  query_rows_there (Table select) traits = (_, are_table select traits lane in_order entries in_order_stands peers_ordered)
  query_rows_there (Exact prefix select) traits = (_, are_exact select traits lane in_order entries in_order_stands peers_ordered prefix)
  query_rows_there (Longest address select) traits = (_, are_longest select traits lane in_order entries in_order_stands peers_ordered address)
  query_rows_there (Within prefix select) traits = (_, are_within select traits lane in_order entries in_order_stands peers_ordered prefix)
  query_rows_there (Origin asn select) traits = (_, are_origin select traits lane in_order entries in_order_stands peers_ordered asn)

pub lines_there : (query : QueryValue) → TellsByLane query → (number : ℕ) (lane : TablesValue × ℕ) (entries : List EntryValue) → StandsForLane lane entries → (lines : List (List ℕ)) × AreLaneLines query number entries lines
lines_there query tells number lane entries stands = lane_lines_there number lane.0 entries stands.tables query tells

pub rows_lines_there : (ask : RowsAsk) (number : ℕ) (lane : TablesValue × ℕ) (entries : List EntryValue) → StandsForLane lane entries → (lines : List (List ℕ)) × AreAskedLaneLines (ask_value (Rows ask)) number entries lines
rows_lines_there ask number lane entries stands =
    let known = query_rows_there number lane.0 entries stands.tables ask.query (traits_value ask.traits) in
    asked_there ask.steps ask.full (row_query_value ask.query) (traits_value ask.traits) number lane.0 entries stands.tables known.0 known.1

pub changes_lines_there : (full : Bool) (asked from : ℕ) (prefix : Option PrefixValue) (number : ℕ) (lane : TablesValue × ℕ) (entries : List EntryValue) → StandsForLane lane entries → (lines : List (List ℕ)) × AreAskedLaneLines (steps full asked from prefix) number entries lines
changes_lines_there full asked from prefix number lane entries stands = asked_changes_lines number lane.0 entries stands.tables full asked from prefix

pub full_marks_lines_there : (select : SelectValue) (number : ℕ) (lane : TablesValue × ℕ) (entries : List EntryValue) → StandsForLane lane entries → (lines : List (List ℕ)) × AreAskedLaneLines (full_marks select) number entries lines
full_marks_lines_there select number lane entries stands = full_marks_lines number lane.0 entries stands.tables select

pub full_routers_lines_there : (number : ℕ) (lane : TablesValue × ℕ) (entries : List EntryValue) → StandsForLane lane entries → (lines : List (List ℕ)) × AreAskedLaneLines full_routers number entries lines
full_routers_lines_there number lane entries stands = full_routers_lines number lane.0 entries stands.tables

pub rows_there : (select : SelectValue) (traits : TraitsValue) (number : ℕ) (lane : TablesValue × ℕ) (entries : List EntryValue) → StandsForLane lane entries → (rows : List RowValue) × AreKeptRows (count select) traits number entries rows
rows_there select traits number lane entries stands =
    (_, are_counted select traits number (tables_by_key lane.0) entries (stand_by_key lane.0 entries stands.tables) (by_key_sorted key_cmp key_total lane.0.session.books.peers))
