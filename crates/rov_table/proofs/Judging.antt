-- The verdict by the walk from parent to parent.
use Rattle.std.proofs.Common.{◌≡◌, ℕ, ◌-◌, ◌<◌, ◌≤◌, List, length, get_or, Option, sym, subst, inl, inr, arith}
use Rattle.std.specs.List.{Contains}
use Rattle.std.specs.List.Sorted.{IsPermutation}
use Rattle.std.proofs.lemmas.Bool.{cases_lt}
use Rattle.std.proofs.lemmas.List.Elements.{Contains-get_or}
use Rattle.std.proofs.lemmas.List.Sorted.{Contains-permutation, IsPermutation-sym}
use Rattle.bmp_specs.specs.Address.{IsAddressPrefix}
use Rattle.bmp_specs.specs.Containment.{ContainsPrefix}
use Rattle.bmp_specs.specs.Values.{PrefixValue}
use Rattle.rov_table.specs.declared.vrp.Vrp.{Vrp}
use Rattle.rov_table.specs.declared.vrp.Verdict.{Verdict}
use Rattle.rov_table.specs.declared.vrp.Verdict.TheVariants.{Valid, Invalid, NotFound}
use Rattle.rov_table.specs.Index.{NoneContains, NoneAfter, IsNearest, IsParent, IsNested}
use Rattle.rov_table.specs.Verdicts.{Covers, Allows, Matches, IsVerdict}
use Rattle.rov_table.proofs.Walk.{none_join, passes}

-- no entry from a place on matches
abbrev pub NoneMatches : List Vrp → PrefixValue → Option ℕ → ℕ → Type 0
NoneMatches sorted p origin low = (k : ℕ) (d : Vrp) → low ≤ k → k < length sorted → Matches (get_or sorted k d) p origin → ⊥

-- where the walk stands
pub record Stands (sorted : List Vrp) (p : PrefixValue) (origin : Option ℕ) (left : ℕ) : Type 0 where
  pub within : left ≤ length sorted
  pub here : (d : Vrp) → 0 < left → ContainsPrefix (get_or sorted (left - 1) d).prefix p
  pub before : NoneAfter sorted p left
  pub some : (v : Vrp) × Contains sorted v × Covers v p
  pub none : NoneMatches sorted p origin left

module _ (sorted : List Vrp) (p : PrefixValue) (origin : Option ℕ) where
  pub none_covers : (count : ℕ) → IsNearest sorted count p 0 → NoneContains sorted p count (length sorted) → IsVerdict sorted p origin NotFound
  none_covers count near past v (k, l, is) covers =
      none_join sorted p 0 count (length sorted) near.none past k v (omega arith) l (subst (λ (w : Vrp). ContainsPrefix w.prefix p) (sym is) covers)

  pub starts : (count left : ℕ) (d : Vrp) → count ≤ length sorted → NoneAfter sorted p count → NoneContains sorted p count (length sorted) → IsNearest sorted count p left → 0 < left → Stands sorted p origin left
  starts count left d within before past near some = record {
    within = omega (arith, near.within, within);
    here = near.contains;
    before = λ k e less. before k e (omega (arith, near.within));
    some = (get_or sorted (left - 1) d, Contains-get_or sorted (left - 1) d (omega (arith, near.within, within)), near.contains d some);
    none = λ k e low less m. none_join sorted p left count (length sorted) near.none past k e low less m.0;
  }

  pub is_valid : (left : ℕ) (d : Vrp) → Stands sorted p origin left → 0 < left → Allows (get_or sorted (left - 1) d) p origin → IsVerdict sorted p origin Valid
  is_valid left d at some allows = (get_or sorted (left - 1) d, Contains-get_or sorted (left - 1) d (omega (arith, at.within)), (at.here d some, allows))

  pub is_invalid : Stands sorted p origin 0 → IsVerdict sorted p origin Invalid
  is_invalid at = (at.some, λ v (k, l, is) m. at.none k v (omega arith) l (subst (λ (w : Vrp). Matches w p origin) (sym is) m))

  pub goes_on : (parents : List ℕ) → IsNested sorted parents → length parents ≡ length sorted → IsAddressPrefix p → (left parent new : ℕ) → Stands sorted p origin left → 0 < left
      → IsParent sorted (left - 1) parent → ((d : Vrp) → Allows (get_or sorted (left - 1) d) p origin → ⊥) → IsNearest sorted parent p new → Stands sorted p origin new
  goes_on parents nested whole exact left parent new at some is refused near =
      let free : NoneContains sorted p new (left - 1) = none_join sorted p new parent (left - 1) near.none
      (passes sorted nested.exact nested.ordered p exact (left - 1) parent is (omega (arith, at.within)) (λ d. at.before (left - 1) d (omega arith))) in
      let below : new ≤ left - 1 = omega (arith, near.within, is.before) in
      record {
        within = omega (arith, at.within);
        here = near.contains;
        before = λ k e less. at.before k e (omega arith);
        some = at.some;
        none = λ k e low less m. elim (cases_lt k (left - 1)) [
          | inl early ↦ free k e low early m.0
          | inr late ↦ elim (cases_lt (left - 1) k) [
            | inl later ↦ at.none k e (omega arith) less m
            | inr most ↦ refused e (subst (λ (i : ℕ). Allows (get_or sorted i e) p origin) (omega arith) m.1)
          ]
        ];
      }

-- the verdict by a list in another order
pub in_any_order : (listed sorted : List Vrp) → IsPermutation listed sorted → (p : PrefixValue) (origin : Option ℕ) (r : Verdict) → IsVerdict sorted p origin r → IsVerdict listed p origin r
in_any_order listed sorted same p origin Valid (v, has, m) = (v, Contains-permutation sorted listed v (IsPermutation-sym listed sorted same) has, m)
in_any_order listed sorted same p origin Invalid ((v, has, covers), none) =
    ((v, Contains-permutation sorted listed v (IsPermutation-sym listed sorted same) has, covers), λ w listed_has m. none w (Contains-permutation listed sorted w same listed_has) m)
in_any_order listed sorted same p origin NotFound none = λ w listed_has covers. none w (Contains-permutation listed sorted w same listed_has) covers
