-- A fault that says that the bytes are broken, where it is handed on.
use Rattle.std.proofs.Common.{◌≡◌}
use Rattle.std.specs.Prelude.{Err, IsErrOf}
use Rattle.wire_io.specs.declared.fault.BodyFault.{BodyFault}
use Rattle.wire_io.specs.declared.fault.BodyFault.TheVariants.{Broken}

-- from another call with the same faults
pub broken_below : {T U : Type 0} (e : BodyFault) → IsErrOf {T = T} {E = BodyFault} (Err e) Broken → IsErrOf {T = U} {E = BodyFault} (Err e) Broken
broken_below e p = let same : e ≡ Broken = cc in λ i. Err (same i)
