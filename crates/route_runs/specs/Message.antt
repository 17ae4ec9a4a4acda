-- The run of one message.
use Rattle.std.specs.Prelude.{◌≡◌, true, List, Option, None, Some}
use Rattle.std.specs.declared.cmp.Ordering.{Ordering}
use Rattle.std.specs.List.{Contains}
use Rattle.std.specs.Option.{is_some}
use Rattle.route_runs.specs.Override.{value_at}

-- each of these keys has this set, or is gone, and no other key is there
pub record IsAllSet {K A : Type 0} (cmp : K → K → Ordering) (keys : List K) (set : Option A) (run : List (K × Option A)) : Type 0 where
  pub set_there : (q : K) → Contains keys q → value_at cmp q run ≡ Some set
  pub listed : (q : K) → is_some (value_at cmp q run) ≡ true → Contains keys q
  pub no_other : (q : K) → (Contains keys q → ⊥) → value_at cmp q run ≡ None

-- the same members
pub record HasSame {K : Type 0} (xs ys : List K) : Type 0 where
  pub to : (q : K) → Contains xs q → Contains ys q
  pub from : (q : K) → Contains ys q → Contains xs q
