-- Which rows the selectors of a query keep, as tests.
use Rattle.std.specs.Prelude.{ℕ, Bool, true, ◌&&◌, Option, Some, None}
use Rattle.std.specs.declared.cmp.Ordering.{Ordering}
use Rattle.std.specs.Ordering.{is_eq, nat_cmp}
use Rattle.bmp_specs.specs.declared.peers.View.{View}
use Rattle.bmp_specs.specs.declared.wire.Family.{Family}
use Rattle.bmp_specs.specs.Orders.{family_cmp, key_cmp, view_cmp}
use Rattle.bmp_specs.specs.Selection.{SelectValue}
use Rattle.bmp_specs.specs.Values.{KeyValue}

-- whether the value is the one that is named, or none is named
abbrev pub is_named : {A : Type 0} → (A → A → Ordering) → Option A → A → Bool
is_named cmp None value = true
is_named cmp (Some named) value = is_eq (cmp named value)

-- whether rows of the peer of this lane are asked for
abbrev pub keeps_peer : Option ℕ → Option KeyValue → ℕ → KeyValue → Bool
keeps_peer router peer lane key = is_named nat_cmp router lane && is_named key_cmp peer key

-- whether rows of this view and family are asked for
abbrev pub keeps_table : SelectValue → View → Family → Bool
keeps_table select view family = is_named view_cmp select.view view && is_named family_cmp select.family family

-- whether rows of this view and family of the peer of this lane are asked for
abbrev pub keeps : SelectValue → ℕ → KeyValue → View → Family → Bool
keeps select lane key view family = keeps_peer select.router select.peer lane key && keeps_table select view family
