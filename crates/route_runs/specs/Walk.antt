-- The pairs of a table from a place on.
use Rattle.std.specs.Prelude.{List, Option, None, Some}
use Rattle.std.specs.declared.cmp.Ordering.{Ordering}
use Rattle.std.specs.List.{filter}
use Rattle.bmp_specs.specs.Orders.{nlri_cmp}
use Rattle.bmp_specs.specs.Values.{NlriValue}
use Rattle.route_runs.specs.declared.walk.Place.{Place}
use Rattle.route_runs.specs.declared.walk.Place.TheVariants.{First, From, After}
use Rattle.route_runs.specs.Cursor.{Walking}
use Rattle.route_runs.specs.Places.{is_after, is_from}

-- the pairs from a place on, in the order of the table
abbrev pub pairs_from : {A : Type 0} → Place → List (NlriValue × A) → List (NlriValue × A)
pairs_from First es = es
pairs_from (From n) es = filter (λ e. is_from nlri_cmp n e.0) es
pairs_from (After n) es = filter (λ e. is_after nlri_cmp (Some n) e.0) es

-- ---- inside
-- the pairs that are left: those from a key on where there is one, else those after the cursor's place
abbrev pub left : {K A : Type 0} → (K → K → Ordering) → Option K → Walking K A → List (K × A)
left cmp None w = filter (λ e. is_after cmp w.place e.0) w.pairs
left cmp (Some k) w = filter (λ e. is_from cmp k e.0) w.pairs
