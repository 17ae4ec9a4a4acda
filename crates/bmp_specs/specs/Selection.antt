-- The selectors of our query language, which keep some of the rows.
use Rattle.std.specs.Prelude.{◌≡◌, ℕ, Option, Some, None}
use Rattle.bmp_specs.specs.declared.peers.View.{View}
use Rattle.bmp_specs.specs.declared.wire.Family.{Family}
use Rattle.bmp_specs.specs.Rows.{RowValue}
use Rattle.bmp_specs.specs.Values.{KeyValue}

-- the lane, the peer, the view and the family that rows are asked for, each where one is named
pub record SelectValue : Type 0 where
  pub router : Option ℕ
  pub peer : Option KeyValue
  pub view : Option View
  pub family : Option Family

-- every row is asked for
abbrev pub select_all : SelectValue
select_all = record { router = None; peer = None; view = None; family = None }

-- the value is the one that is named, or none is named
abbrev pub IsAskedFor : {A : Type 0} → Option A → A → Type 0
IsAskedFor None value = Unit {0}
IsAskedFor (Some named) value = named ≡ value

-- the peer, on this lane, is the one that is named, where one is, and so is the lane
pub record IsPeerSelected (router : Option ℕ) (peer : Option KeyValue) (lane : ℕ) (key : KeyValue) : Type 0 where
  pub router_is : IsAskedFor router lane
  pub peer_is : IsAskedFor peer key

-- the routes of this family that a peer has in this view, on this lane, have all values that are named
pub record IsSelected (select : SelectValue) (lane : ℕ) (key : KeyValue) (view : View) (family : Family) : Type 0 where
  pub of_peer : IsPeerSelected select.router select.peer lane key
  pub view_is : IsAskedFor select.view view
  pub family_is : IsAskedFor select.family family

-- the row, on this lane, has all values that are named
abbrev pub IsRowSelected : SelectValue → ℕ → RowValue → Type 0
IsRowSelected select lane row = IsSelected select lane row.row_key.key row.row_key.view row.row_key.nlri.prefix.address.family
