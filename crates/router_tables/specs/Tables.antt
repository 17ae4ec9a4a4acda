-- What a router's tables stand for: the entries of one lane.
use Rattle.std.specs.Prelude.{◌≡◌, ◌↔◌, List, map, Option, Some, option_and_then}
use Rattle.std.specs.BTreeMap.{is_at}
use Rattle.std.specs.Map.{lookup}
use Rattle.bmp_specs.specs.declared.peers.View.{View}
use Rattle.bmp_specs.specs.Orders.{key_cmp, nlri_cmp}
use Rattle.bmp_specs.specs.Rows.{RowKeyValue, RowValue, HasRow}
use Rattle.bmp_specs.specs.Session.{session_effects}
use Rattle.bmp_specs.specs.Steps.{steps_of}
use Rattle.bmp_specs.specs.Values.{KeyValue, AttrsValue, EffectValue, EntryValue, StepValue}
use Rattle.recent_ring.specs.Recent.{RecentValue, recent}
use Rattle.rib_model.specs.declared.step.Step.{Step}
use Rattle.rib_model.specs.Steps.{step_value}
use Rattle.route_runs.specs.Override.{value_at}
use Rattle.router_tables.specs.Session.{SessionValue, StandsForSession}
use Rattle.router_tables.specs.Views.{Table, ViewsValue, view_table}

-- the peers that have tables, in their order
abbrev pub Tables : Type 0
Tables = List (KeyValue × ViewsValue)

-- the table of a peer and a view
abbrev pub table_at : Tables → KeyValue → View → Option Table
table_at tables key view = option_and_then (view_table view) (lookup (is_at (key_cmp key)) tables)

-- the route at a place
abbrev pub route_at : Tables → RowKeyValue → Option AttrsValue
route_at tables place = option_and_then (value_at nlri_cmp place.nlri) (table_at tables place.key place.view)

-- the tables have exactly the rows that these effects leave
abbrev pub AreRowsOf : Tables → List EffectValue → Type 0
AreRowsOf tables effects = (row : RowValue) → (route_at tables row.row_key ≡ Some row.route) ↔ HasRow effects row

-- the last steps, without the place of their parts in memory
abbrev pub steps_told : RecentValue Step → RecentValue StepValue
steps_told steps = record { total = steps.total; items = map step_value steps.items }

pub record TablesValue : Type 0 where
  pub session : SessionValue
  pub tables : Tables
  pub steps : RecentValue StepValue

-- They are the present session of these entries, with exactly the rows that it leaves; and they have the last steps
-- of all the entries.
pub record StandsFor (tables : TablesValue) (entries : List EntryValue) : Type 0 where
  pub session : StandsForSession tables.session entries
  pub rows : AreRowsOf tables.tables (session_effects entries)
  pub steps : tables.steps ≡ recent (steps_of entries)
