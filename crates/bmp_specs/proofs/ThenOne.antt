-- Bytes are one sequence at most, and one value at most where a value may be missing.
use Rattle.std.proofs.Common.{◌≡◌, ℕ, List, refl, sym, Option, Some, None}
use Rattle.bmp_specs.specs.Attributes.{Optional}
use Rattle.bmp_specs.specs.Parts.{IsCode}
use Rattle.bmp_specs.specs.Sequence.{Then}
use Rattle.bmp_specs.proofs.SequenceRead.{Then-given}

-- bytes have one value at most
abbrev pub IsOne : {V : Type 0} → (List ℕ → V → Type 0) → Type 0
IsOne {V} Is = (bytes : List ℕ) (v w : V) → Is bytes v → Is bytes w → v ≡ w

pub Then-one : {A B : Type 0} (Is : List ℕ → A → Type 0) (Js : List ℕ → B → Type 0) → IsCode Is → IsOne Js → IsOne (Then Is Js)
Then-one Is Js code one bytes v w p q =
    let second = (Then-given Is code Js bytes p.1 v.0 (p.0, p.2, p.3)).1 w q in
    let rest : v.1 ≡ w.1 = one p.1 v.1 w.1 p.4 second.1 in
    λ i. (sym second.0 i, rest i)

pub Optional-one : {V : Type 0} (Is : List ℕ → V → Type 0) → IsOne Is → (found : Option (List ℕ)) (v w : Option V) → Optional Is found v → Optional Is found w → v ≡ w
Optional-one Is one None None None p q = refl
Optional-one Is one None None (Some w) p q = absurd q
Optional-one Is one None (Some v) w p q = absurd p
Optional-one Is one (Some bytes) None w p q = absurd p
Optional-one Is one (Some bytes) (Some v) None p q = absurd q
Optional-one Is one (Some bytes) (Some v) (Some w) p q = let same : v ≡ w = one bytes v w p q in λ i. Some (same i)
