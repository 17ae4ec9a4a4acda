-- Which status an arm answers.
use Rattle.std.proofs.Common.{◌≡◌, ℕ, Result, Ok, Err, inl, inr, refl, sym, ap}
use Rattle.std.specs.Prelude.{◌⊎◌}
use Rattle.bmp_specs.specs.declared.causes.Cause.{Cause}
use Rattle.bmp_specs.specs.declared.causes.Cause.TheVariants.{Ended, Terminated, CutShort, Broken, Full}
use Rattle.bmp_specs.specs.declared.causes.Why.{Why}
use Rattle.relay_out.specs.declared.fault.EmitFault.{EmitFault}
use Rattle.relay_out.specs.declared.fault.EmitFault.TheVariants.{Unwritable}
use Rattle.station_top.specs.Status.{status_of, status_relayed}
use Rattle.station_top.specs.declared.status.Status.TheVariants as status

-- the stream was read to its end
pub done_after : (cause : Cause) → (cause ≡ Ended) ⊎ (cause ≡ Terminated) → status.Done ≡ status_of cause
done_after cause (inl is) = sym (ap status_of is)
done_after cause (inr is) = sym (ap status_of is)

-- it stopped early
pub stopped_after : (cause : Cause) → ((offset : ℕ) × (cause ≡ CutShort offset)) ⊎ (((offset : ℕ) × (why : Why) × (cause ≡ Broken offset why)) ⊎ (cause ≡ Full)) → status.Stopped ≡ status_of cause
stopped_after cause (inl (offset, is)) = sym (ap status_of is)
stopped_after cause (inr (inl (offset, why, is))) = sym (ap status_of is)
stopped_after cause (inr (inr is)) = sym (ap status_of is)

-- what it left can't be relayed
pub unwritable_by : (relay : Result (Unit {0}) EmitFault) (why : EmitFault) (cause : Cause) → relay ≡ Err why → why ≡ Unwritable → status.Unwritable ≡ status_relayed relay cause
unwritable_by relay why cause is same = rw is (rw same refl)
