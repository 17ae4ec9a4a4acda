-- What the first item of a range says, where the range has no end.
use Rattle.std.proofs.Common.{◌≡◌, Bool, true, false, ◌&&◌, List, Option, None, Some, refl}
use Rattle.std.specs.declared.cmp.Ordering.{Ordering}
use Rattle.std.specs.declared.ops.Bound.TheVariants.{Excluded, Included, Unbounded}
use Rattle.std.specs.Ordering.{is_lt, is_le}
use Rattle.std.specs.List.{filter, slice_get}
use Rattle.std.specs.Option.{option_map}
use Rattle.std.specs.Map.Iter.{TakesFirst}
use Rattle.std.specs.BTreeMap.Range.{entries_between}

-- the first item that `next` gives is the first of the list
pub first_shown : {A X : Type 0} (shows : A → X) (s t : List X) (r : Option A) → TakesFirst shows s r t → option_map shows r ≡ slice_get s 0
first_shown shows s t None h = rw h.0
first_shown shows s t (Some x) h = rw h

and_true : (b : Bool) → (b && true) ≡ b
and_true true = refl
and_true false = refl

-- the pairs of a range that has no end
pub between-after : {K X : Type 0} (cmp : K → K → Ordering) (k : K) (es : List (K × X)) → entries_between cmp (Excluded k) Unbounded es ≡ filter (λ e. is_lt (cmp k e.0)) es
between-after cmp k es = λ i. filter (λ e. and_true (is_lt (cmp k e.0)) i) es

pub between-from : {K X : Type 0} (cmp : K → K → Ordering) (k : K) (es : List (K × X)) → entries_between cmp (Included k) Unbounded es ≡ filter (λ e. is_le (cmp k e.0)) es
between-from cmp k es = λ i. filter (λ e. and_true (is_le (cmp k e.0)) i) es
