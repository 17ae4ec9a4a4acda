-- Changes of tables that are gathered for each peer and RIB.
use Rattle.std.specs.Prelude.{◌≡◌, ◌↔◌, List, [], Option, Some, None, option_and_then}
use Rattle.std.specs.BTreeMap.{is_at}
use Rattle.std.specs.Map.{lookup}
use Rattle.std.specs.Option.{unwrap_or}
use Rattle.bmp_specs.specs.declared.peers.View.{View}
use Rattle.bmp_specs.specs.declared.peers.View.TheVariants.{InPre, InPost, OutPre, OutPost, Loc}
use Rattle.bmp_specs.specs.Orders.{key_cmp, nlri_cmp}
use Rattle.bmp_specs.specs.Rows.{RowKeyValue, RowValue, HasRow}
use Rattle.bmp_specs.specs.Values.{NlriValue, KeyValue, AttrsValue, EffectValue, announce, withdraw}
use Rattle.route_runs.specs.Layers.{AreChangedTo}
use Rattle.route_runs.specs.Override.{value_at}
use Rattle.route_runs.specs.Runs.{changed}
use Rattle.router_tables.specs.Tables.{Tables, table_at, route_at}
use Rattle.router_tables.specs.Views.{Table, ViewsValue, view_table}

-- what each NLRI is changed to, a route or none, in the order of NLRI
abbrev pub TableChanges : Type 0
TableChanges = List (NlriValue × Option AttrsValue)

pub record PendingValue : Type 0 where
  pub in_pre : TableChanges
  pub in_post : TableChanges
  pub out_pre : TableChanges
  pub out_post : TableChanges
  pub loc : TableChanges

-- the changes of the table of a view
abbrev pub view_changes : View → PendingValue → TableChanges
view_changes InPre pending = pending.in_pre
view_changes InPost pending = pending.in_post
view_changes OutPre pending = pending.out_pre
view_changes OutPost pending = pending.out_post
view_changes Loc pending = pending.loc

-- a route is announced for an NLRI, or its route is withdrawn
abbrev pub route_effect : KeyValue → View → Option AttrsValue → NlriValue → EffectValue
route_effect key view (Some route) nlri = announce key view nlri route
route_effect key view None nlri = withdraw key view nlri

-- these NLRI of a view are changed to this, and nothing else
pub record IsGathered (view : View) (nlris : List NlriValue) (to : Option AttrsValue) (old new : PendingValue) : Type 0 where
  pub this : AreChangedTo nlri_cmp nlris to (view_changes view old) (view_changes view new)
  pub others : (other : View) → ¬ (view ≡ other) → view_changes other new ≡ view_changes other old

abbrev pub no_changes : PendingValue
no_changes = record { in_pre = []; in_post = []; out_pre = []; out_post = []; loc = [] }

-- the peers that have changes, in their order
abbrev pub PendingTables : Type 0
PendingTables = List (KeyValue × PendingValue)

abbrev pub changes_of : PendingTables → KeyValue → PendingValue
changes_of pending key = unwrap_or (lookup (is_at (key_cmp key)) pending) no_changes

-- these NLRI of a peer and a view are changed to this, and nothing else
pub record IsGatheredFor (key : KeyValue) (view : View) (nlris : List NlriValue) (to : Option AttrsValue) (old new : PendingTables) : Type 0 where
  pub this : IsGathered view nlris to (changes_of old key) (changes_of new key)
  pub others : (other : KeyValue) → ¬ (key ≡ other) → changes_of new other ≡ changes_of old other

-- the route at a place once the changes are made
abbrev pub route_after : PendingTables → Tables → RowKeyValue → Option AttrsValue
route_after pending tables place = changed (value_at nlri_cmp place.nlri (view_changes place.view (changes_of pending place.key))) (route_at tables place)

-- the tables have exactly the rows that these effects leave, once the changes are made
abbrev pub AreRowsAfter : PendingTables → Tables → List EffectValue → Type 0
AreRowsAfter pending tables effects = (row : RowValue) → (route_after pending tables row.row_key ≡ Some row.route) ↔ HasRow effects row

-- a table has what the changes say of each NLRI, and else what it had
abbrev pub IsTableAfter : TableChanges → Option Table → Option Table → Type 0
IsTableAfter changes old new = (nlri : NlriValue)
    → option_and_then (value_at nlri_cmp nlri) new ≡ changed (value_at nlri_cmp nlri changes) (option_and_then (value_at nlri_cmp nlri) old)

-- each table of a peer has
abbrev pub AreTablesAfter : PendingValue → ViewsValue → ViewsValue → Type 0
AreTablesAfter pending old new = (view : View) → IsTableAfter (view_changes view pending) (view_table view old) (view_table view new)

-- the tables of one peer are changed, and no others
pub record IsPeerAfter (key : KeyValue) (pending : PendingValue) (old new : Tables) : Type 0 where
  pub this : (view : View) → IsTableAfter (view_changes view pending) (table_at old key view) (table_at new key view)
  pub others : (other : KeyValue) → ¬ (key ≡ other) → (view : View) → table_at new other view ≡ table_at old other view

-- tables, and the changes that are gathered for them
pub record RowsValue : Type 0 where
  pub tables : Tables
  pub pending : PendingTables

-- they have exactly the rows that these effects leave, once the changes are made
abbrev pub StandsForRows : RowsValue → List EffectValue → Type 0
StandsForRows rows effects = AreRowsAfter rows.pending rows.tables effects
