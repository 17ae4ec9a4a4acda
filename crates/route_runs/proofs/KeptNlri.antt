-- Changes and tables have NLRI alone.
use Rattle.std.proofs.Common.{◌≡◌, ℕ, ◌+◌, ◌<◌, true, ◌⊎◌, inl, inr, List, length, get_or, Option, None, Some, refl, ap, sym, ◌∙◌, subst, arith}
use Rattle.std.specs.List.{Contains}
use Rattle.std.specs.Option.{is_some}
use Rattle.std.proofs.lemmas.Bool.{cases_lt}
use Rattle.std.proofs.lemmas.List.{get_or_default}
use Rattle.bmp_specs.specs.Orders.{nlri_cmp}
use Rattle.bmp_specs.specs.Values.{NlriValue}
use Rattle.route_runs.specs.Layers.{IsLayered}
use Rattle.route_runs.specs.Message.{IsAllSet}
use Rattle.route_runs.specs.Nlri.{AreKeys}
use Rattle.route_runs.specs.Override.{value_at, or_else}
use Rattle.route_runs.specs.Runs.{changed, IsChanged}

-- the elements up to a place, and the one there
pub one_more : (P : NlriValue → Type 0) (list : List NlriValue) (n : ℕ) (x : NlriValue) → n < length list → x ≡ get_or list n x → P x → ((k : ℕ) (d : NlriValue) → k < n → P (get_or list k d)) → (k : ℕ) (d : NlriValue) → k < n + 1 → P (get_or list k d)
one_more P list n x within is here so_far k d lt = elim (cases_lt k n) [
  | inl less ↦ so_far k d less
  | inr more ↦ let same : k ≡ n = omega (arith, lt, more) in subst P (is ∙ get_or_default list n x d within ∙ ap (λ k. get_or list k d) (sym same)) here
]

one_of_both : {X : Type 0} (a b : Option X) → is_some (or_else a b) ≡ true → (is_some a ≡ true) ⊎ (is_some b ≡ true)
one_of_both None b e = inr e
one_of_both (Some x) b e = inl refl

changed_or_there : {A : Type 0} (a : Option (Option A)) (b : Option A) → is_some (changed a b) ≡ true → (is_some a ≡ true) ⊎ (is_some b ≡ true)
changed_or_there None b e = inr e
changed_or_there (Some x) b e = inl refl

pub keys_changed : {A : Type 0} (P : NlriValue → Type 0) (old new : List (NlriValue × A)) (run : List (NlriValue × Option A)) → IsChanged nlri_cmp old run new → AreKeys P old → AreKeys P run → AreKeys P new
keys_changed P old new run c o r q has = elim (changed_or_there (value_at nlri_cmp q run) (value_at nlri_cmp q old) (sym (ap is_some (c.values q)) ∙ has)) [ inl h ↦ r q h | inr h ↦ o q h ]

pub keys_layered : {A : Type 0} (P : NlriValue → Type 0) (keys : List NlriValue) (to : Option A) (old run new : List (NlriValue × Option A)) → ((q : NlriValue) → Contains keys q → P q) → IsAllSet nlri_cmp keys to run → IsLayered nlri_cmp old run new → AreKeys P old → AreKeys P new
keys_layered P keys to old run new all set l o q has = elim (one_of_both (value_at nlri_cmp q run) (value_at nlri_cmp q old) (sym (ap is_some (l.values q)) ∙ has)) [
  | inl h ↦ all q (set.listed q h)
  | inr h ↦ o q h
]
