-- What is so of all keys and of all sets of the runs is so of the pairs that they hold together.
use Rattle.std.proofs.Common.{◌≡◌, ℕ, ◌<◌, ◌/◌, ◌%◌, zero, suc, Bool, true, false, nat_eq, if◌then◌else◌, IfSome, List, [], ◌∷◌, ◌++◌, length, take, get_or, map, Option, None, Some, refl, sym, ◌∙◌, subst, arith}
use Rattle.std.specs.BTreeMap.{insert_entry}
use Rattle.std.specs.List.{AllByRecursion, slice_get}
use Rattle.std.specs.Ordering.{match_ordering}
use Rattle.std.specs.declared.cmp.Ordering.{Ordering}
use Rattle.std.specs.declared.cmp.Ordering.TheVariants.{Less, Equal, Greater}
use Rattle.std.specs.Option.{is_some}
use Rattle.bmp_specs.specs.declared.wire.Family.{Family}
use Rattle.bmp_specs.specs.declared.wire.Family.TheVariants.{V4, V6}
use Rattle.bmp_specs.specs.Values.{AttrsValue, NlriValue}
use Rattle.route_runs.specs.Nlri.{AreHalves, IsNlriOf}
use Rattle.route_runs.specs.Rows.{gone, named, paired, rows, set_at}
use Rattle.route_runs.specs.Runs.{add_live, contents, in_order, joined, live}
use Rattle.route_runs.specs.Sets.{PairPasses, RoutePasses, RowPasses, of_family}
use Rattle.route_runs.proofs.Halves.{all_cat, keys_are}

-- ---- one after another
pub all_next : {X Y : Type 0} (f : X → Y) (P : Y → Type 0) (xs : List X) (i : ℕ) (d x : X) → i < length xs → x ≡ get_or xs i d → AllByRecursion P (map f (take i xs)) → P (f x) → AllByRecursion P (map f (take (suc i) xs))
all_next f P [] i d x lt is a p = absurd (omega (arith, lt))
all_next f P (y ∷ xs) zero d x lt is a p = (subst (λ z. P (f z)) is p, tt)
all_next f P (y ∷ xs) (suc i) d x lt is a p = (a.0, all_next f P xs i d x (omega (arith, lt)) is a.1 p)

-- ---- the rows of a run
all_at : {X : Type 0} (P : X → Type 0) (xs : List X) (i : ℕ) → AllByRecursion P xs → IfSome (slice_get xs i) P
all_at P [] i a = tt
all_at P (x ∷ xs) zero a = a.0
all_at P (x ∷ xs) (suc i) a = all_at P xs i a.1

pack_at : {X : Type 0} (P : X → Type 0) (packs : List (List X)) (i : ℕ) → AllByRecursion (λ xs. AllByRecursion P xs) packs → AllByRecursion P (get_or packs i [])
pack_at P [] i a = tt
pack_at P (xs ∷ packs) zero a = a.0
pack_at P (xs ∷ packs) (suc i) a = pack_at P packs i a.1

if_there : {X : Type 0} (P : X → Type 0) (b : Bool) (o : Option X) → IfSome o P → IfSome (if b then None else o) P
if_there P true o i = tt
if_there P false o i = i

set_passes : {A : Type 0} (P : A → Type 0) (packs : List (List A)) (h : ℕ) → AllByRecursion (λ xs. AllByRecursion P xs) packs → IfSome (set_at packs h) P
set_passes P packs h a = if_there P (nat_eq h gone) (slice_get (get_or packs (h / 4096) []) (h % 4096)) (all_at P (get_or packs (h / 4096) []) (h % 4096) (pack_at P packs (h / 4096) a))

pub rows_pass : {K A : Type 0} (marked : K → Bool) (ids : Bool) (P : A → Type 0) (packs : List (List A)) (ks : List K) (vs : List ℕ) → AllByRecursion (λ k. marked k ≡ ids) ks → AllByRecursion (λ xs. AllByRecursion P xs) packs
    → AllByRecursion (RowPasses marked ids P) (rows packs ks vs)
rows_pass marked ids P packs [] vs m a = tt
rows_pass marked ids P packs (k ∷ ks) [] m a = tt
rows_pass marked ids P packs (k ∷ ks) (v ∷ vs) m a = ((m.0, set_passes P packs v a), rows_pass marked ids P packs ks vs m.1 a)

-- ---- the pairs of all runs
module _ {K A : Type 0} (marked : K → Bool) (ids : Bool) (P : A → Type 0) where
  all_joined : (runs : List (List (K × Option A))) → AllByRecursion (λ es. AllByRecursion (RowPasses marked ids P) es) runs → AllByRecursion (RowPasses marked ids P) (joined runs)
  all_joined [] a = tt
  all_joined (run ∷ runs) a = all_cat (RowPasses marked ids P) (joined runs) run (all_joined runs a.1) a.0

  module _ (cmp : K → K → Ordering) where
    inserted : (es : List (K × Option A)) (k : K) (o : Option A) → AllByRecursion (RowPasses marked ids P) es → RowPasses marked ids P (k, o) → AllByRecursion (RowPasses marked ids P) (insert_entry cmp es k o)
    inserted [] k o a p = (p, tt)
    inserted (e ∷ es) k o a p = by (cmp k e.0) (inserted es k o a.1 p)
      where
        by : (c : Ordering) → AllByRecursion (RowPasses marked ids P) (insert_entry cmp es k o) → AllByRecursion (RowPasses marked ids P) (match_ordering c ((k, o) ∷ e ∷ es) ((e.0, o) ∷ es) (e ∷ insert_entry cmp es k o))
        by Less further = (p, a)
        by Equal further = ((a.0.0, p.1), a.1)
        by Greater further = (a.0, further)

    ordered : (es : List (K × Option A)) → AllByRecursion (RowPasses marked ids P) es → AllByRecursion (RowPasses marked ids P) (in_order cmp es)
    ordered [] a = tt
    ordered (e ∷ es) a = inserted (in_order cmp es) e.0 e.1 (ordered es a.1) a.0

    added : (k : K) (o : Option A) (es : List (K × A)) → RowPasses marked ids P (k, o) → AllByRecursion (PairPasses marked ids P) es → AllByRecursion (PairPasses marked ids P) (add_live k o es)
    added k None es p a = a
    added k (Some x) es p a = (p, a)

    all_live : (es : List (K × Option A)) → AllByRecursion (RowPasses marked ids P) es → AllByRecursion (PairPasses marked ids P) (live es)
    all_live [] a = tt
    all_live (e ∷ es) a = added e.0 e.1 (live es) a.0 (all_live es a.1)

    pub contents_pass : (runs : List (List (K × Option A))) → AllByRecursion (λ es. AllByRecursion (RowPasses marked ids P) es) runs → AllByRecursion (PairPasses marked ids P) (contents cmp runs)
    contents_pass runs a = all_live (in_order cmp (joined runs)) (ordered (joined runs) (all_joined runs a))

-- ---- the routes of both families
half_passes : (which : Family) (low high ids : Bool) (P : AttrsValue → Type 0) (es : List (NlriValue × AttrsValue)) → of_family low high which ≡ ids → AllByRecursion (λ (e : NlriValue × AttrsValue). IsNlriOf which e.0) es
    → AllByRecursion (PairPasses (λ n. is_some n.id) ids P) es → AllByRecursion (RoutePasses low high P) es
half_passes which low high ids P [] is keys a = tt
half_passes which low high ids P (e ∷ es) is keys a =
    ((a.0.0 ∙ sym (subst (λ (f : Family). of_family low high f ≡ ids) (sym keys.0.family) is), a.0.1), half_passes which low high ids P es is keys.1 a.1)

pub both_pass : (low high : Bool) (P : AttrsValue → Type 0) (es fs : List (NlriValue × AttrsValue)) → AreHalves es fs → AllByRecursion (PairPasses (λ n. is_some n.id) low P) es → AllByRecursion (PairPasses (λ n. is_some n.id) high P) fs
    → AllByRecursion (RoutePasses low high P) (es ++ fs)
both_pass low high P es fs halves a b =
    all_cat (RoutePasses low high P) es fs
    (half_passes V4 low high low P es refl (keys_are (IsNlriOf V4) es halves.low) a)
    (half_passes V6 low high high P fs refl (keys_are (IsNlriOf V6) fs halves.high) b)
