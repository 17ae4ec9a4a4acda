-- The rows that a query asks of a lane's tables, and their lines.
use Rattle.std.specs.Prelude.{ℕ, Bool, ◌&&◌, ◌||◌, not, leb, List, [], ◌∷◌, true, map}
use Rattle.std.specs.List.{filter, flat_map}
use Rattle.bmp_specs.specs.declared.peers.View.{View}
use Rattle.bmp_specs.specs.declared.wire.Family.{Family}
use Rattle.std.specs.Prelude.{Option}
use Rattle.ask_specs.specs.Traits.{TraitsValue}
use Rattle.bmp_specs.specs.Orders.{family_cmp}
use Rattle.bmp_specs.specs.Query.{QueryValue, table, exact, within}
use Rattle.bmp_specs.specs.Rows.{RowValue}
use Rattle.bmp_specs.specs.Selection.{SelectValue}
use Rattle.bmp_specs.specs.Values.{AddressValue, AttrsValue, KeyValue, NlriValue}
use Rattle.route_runs.specs.Origins.{attrs_origin, is_number}
use Rattle.router_tables.specs.Tables.{TablesValue}
use Rattle.router_tables.specs.Views.{Table}
use Rattle.query_eval.specs.declared.run.Part.{Part}
use Rattle.query_eval.specs.declared.run.Part.TheVariants.{Whole, Exact, Within}
use Rattle.query_eval.specs.declared.run.Run.{Run}
use Rattle.query_eval.specs.RowRuns.{holds, in_run}
use Rattle.query_eval.specs.RowTables.{PeerTableValue, lane_tables}
use Rattle.query_eval.specs.Selecting.{is_named}
use Rattle.query_eval.specs.TraitTests.{has_traits}

-- which pairs of a table are asked for
abbrev pub Asking : Type 0
Asking = Table → NlriValue × AttrsValue → Bool

-- those of a run; those of a family whose path has this origin AS
abbrev pub asks_run : Run → Asking
asks_run run pairs e = in_run run e.0

abbrev pub asks_origin : ℕ → Option Family → Asking
asks_origin asn family pairs e = is_named family_cmp family e.0.prefix.address.family && is_number asn (attrs_origin e.1)

-- no longer prefix of these holds the address
abbrev pub none_longer : AddressValue → ℕ → Table → Bool
none_longer a bits [] = true
none_longer a bits (e ∷ es) = (not (holds e.0.prefix a) || leb e.0.prefix.bits bits) && none_longer a bits es

-- those of a family with the longest prefix that holds the address
abbrev pub asks_longest : AddressValue → Option Family → Asking
asks_longest a family pairs e = is_named family_cmp family e.0.prefix.address.family && (holds e.0.prefix a && none_longer a e.0.prefix.bits pairs)

-- whether the route of a pair has what the selectors of path attributes ask, and of the pairs that are asked for those that do
abbrev pub passes : TraitsValue → NlriValue × AttrsValue → Bool
passes traits e = has_traits traits e.1

abbrev pub kept : TraitsValue → Asking → Asking
kept traits asking pairs e = passes traits e && asking pairs e

-- a route of a table at its place
abbrev pub row_of : KeyValue → View → NlriValue × AttrsValue → RowValue
row_of key view e = record { row_key = record { key = key; view = view; nlri = e.0 }; route = e.1 }

-- the rows that are asked of a table, and of a lane's tables
abbrev pub asked_of : Asking → PeerTableValue → List RowValue
asked_of asking t = map (row_of t.key t.view) (filter (asking t.pairs) t.pairs)

abbrev pub asked_rows : Asking → List PeerTableValue → List RowValue
asked_rows asking tables = flat_map (asked_of asking) tables

-- the lines of a table's pairs by what tells each of them
abbrev pub lines_by : (NlriValue → AttrsValue → List ℕ) → Table → List (List ℕ)
lines_by line pairs = map (λ e. line e.0 e.1) pairs

-- the rows of a lane that a query asks for
abbrev pub lane_rows : Asking → SelectValue → ℕ → TablesValue → List RowValue
lane_rows asking select lane tables = asked_rows asking (lane_tables select lane tables)

-- the query that asks for a part of the rows that the selectors keep, and these rows
abbrev pub part_query : Part → SelectValue → QueryValue
part_query Whole select = table select
part_query (Exact p) select = exact p select
part_query (Within p) select = within p select

abbrev pub part_rows : Part → SelectValue → TraitsValue → ℕ → TablesValue → List RowValue
part_rows part select traits lane tables = lane_rows (kept traits (asks_run (record { family = select.family; part = part }))) select lane tables
