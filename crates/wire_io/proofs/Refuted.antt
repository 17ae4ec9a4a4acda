-- Wrong results that the clauses of this crate don't let through, each at values.
use Rattle.std.proofs.Common.{◌≡◌, ℕ, List, [], ◌∷◌, Some, Result, Ok, Err, refl, arith}
use Rattle.wire_io.specs.declared.sink.Failed.{Failed}
use Rattle.wire_io.specs.Aside.{nothing_aside}
use Rattle.wire_io.specs.Buffer.{BufferValue, GoesThrough}
use Rattle.wire_io.specs.Faults.{Rose}
use Rattle.wire_io.specs.Memory.{MemSinkValue, WritesTo}

-- A write that fails isn't counted, or is counted twice.
no_fault_is_no_rise : Rose 0 0 → ⊥
no_fault_is_no_rise rose = omega (arith, rose)

two_faults_are_no_rise : Rose 0 2 → ⊥
two_faults_are_no_rise rose = omega (arith, rose)

abbrev full_sink : ℕ → ℕ → MemSinkValue
full_sink calls faults = record { bytes = 65 ∷ []; room = 1; fails = []; calls = calls; faults = faults }

a_full_sink_counts_its_fault : (failed : Failed) → WritesTo (full_sink 1 0) (full_sink 2 0) (Err failed) (66 ∷ []) → ⊥
a_full_sink_counts_its_fault failed writes = grind (arith, writes.1)

-- The last bytes that a buffer holds are not written.
abbrev LeavesOneByte : BufferValue (List ℕ) → Result (Unit {0}) Failed → BufferValue (List ℕ) → Type 0
LeavesOneByte old result new = (result ≡ Ok tt) × (new ≡ record old { held = 65 ∷ []; used = 1 })

a_held_byte_is_written : GoesThrough (λ (sink : List ℕ). 0) (λ sink. Some sink) (λ sink. nothing_aside) LeavesOneByte [] (Ok tt) [] → ⊥
a_held_byte_is_written through =
    let written = through.written (65 ∷ []) (rw (through.left.0, through.left.1) (record {
      whole = refl;
      front = record { front = 65 ∷ []; back = []; parts = refl; grown = refl };
      kept = refl;
      cause = record { later = omega arith; failed = tt; fine = refl };
    })) in
    grind (arith, written.whole)
