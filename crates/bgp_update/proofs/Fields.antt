-- The three fields of an UPDATE message, cut off one after another.
use Rattle.std.proofs.Common.{List, ℕ}
use Rattle.bmp_specs.specs.Counted.{IsCounted, IsRest}
use Rattle.bmp_specs.specs.Sequence.{HasFront, Then}
use Rattle.bmp_specs.proofs.SequenceRead.{Then-given, Then-stuck}
use Rattle.bmp_specs.proofs.UpdateOne.{UpdateFields, counted_code}

-- no field stands at the front
pub no_withdrawn : (body : List ℕ) → ((value rest : List ℕ) → HasFront IsCounted body value rest → ⊥) → (v : UpdateFields) → Then IsCounted (Then IsCounted IsRest) body v → ⊥
no_withdrawn body none v fields = Then-stuck IsCounted (Then IsCounted IsRest) body none v fields

-- no field stands behind the first
pub no_attributes : (body withdrawn rest : List ℕ) → HasFront IsCounted body withdrawn rest → ((value after : List ℕ) → HasFront IsCounted rest value after → ⊥)
    → (v : UpdateFields) → Then IsCounted (Then IsCounted IsRest) body v → ⊥
no_attributes body withdrawn rest here none v fields =
    let given = Then-given IsCounted counted_code (Then IsCounted IsRest) body rest withdrawn here in
    Then-stuck IsCounted IsRest rest none v.1 (given.1 v fields).1
