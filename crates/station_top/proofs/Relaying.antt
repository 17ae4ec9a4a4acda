-- What `relay` comes to, from what its steps say.
use Rattle.std.proofs.Common.{◌≡◌, ℕ, List, ◌∷◌, Option, Result, Ok, Err, inl, inr, refl, sym, ◌∙◌}
use Rattle.bmp_specs.specs.declared.causes.Cause.{Cause}
use Rattle.bmp_specs.specs.Meaning.{Meaning}
use Rattle.bmp_specs.specs.Openings.{nothing_told}
use Rattle.bmp_specs.specs.Session.{session_effects}
use Rattle.bmp_specs.specs.Values.{EffectValue, EntryValue, opened}
use Rattle.wire_io.specs.Aside.{Aside}
use Rattle.relay_out.specs.declared.fault.EmitFault.{EmitFault}
use Rattle.relay_out.specs.declared.fault.EmitFault.TheVariants as fault
use Rattle.relay_out.specs.Writing.{IsCounted, Relays}
use Rattle.station_doors.specs.Doors.{YardValue}
use Rattle.station_top.specs.Station.{AnswersFault, FromYard, IsTaken, RelayConcludes, Relayed, broken_off, cut, relayed, unlent, unsettled, untaken, unwritable, wrote}
use Rattle.station_top.specs.Status.{status_relayed}
use Rattle.station_top.specs.declared.status.Status.{Status}
use Rattle.station_top.specs.declared.status.Status.TheVariants.{Done, Stopped, Usage, ReadFault, WriteFault, NoMemory, YardFault, Unwritable, BadFile, BadArchive, DiskFault, ArchiveFull}
use Rattle.station_top.specs.declared.take.Taken.{Taken}
use Rattle.station_top.proofs.Concluding.{no_write_fault}

module _ {O : Type 0} (faults : O → ℕ) (told : O → Option (List ℕ)) (aside : O → Aside) where
  pub relayed_by : (effects : List EffectValue) (cause : Cause) (a b : O) (r : Result (Unit {0}) EmitFault) → Relays faults told aside effects a r b → Relayed effects cause (told a) (told b) (status_relayed r cause)
  relayed_by effects cause a b (Ok v) (can, bytes, stream, back, grown, kept, calm) = wrote can bytes stream back grown
  relayed_by effects cause a b (Err fault.Failed) (can, s, is, begun, rose) = cut can s begun.written is begun.front begun.grown
  relayed_by effects cause a b (Err fault.Unwritable) (cannot, same) = unwritable cannot (λ i. told (same i))
  relayed_by effects cause a b (Err fault.NoMemory) (inl can, s, is, begun, calm) = broken_off (inl can) s begun.written is begun.front begun.grown
  relayed_by effects cause a b (Err fault.NoMemory) (inr same, s, is, begun, calm) = broken_off (inr (λ i. told (same i))) s begun.written is begun.front begun.grown

  -- the input was taken, and what it left is relayed
  pub relay_concludes : (meaning : Meaning) (Stands : List EntryValue → Type 0) (old new : Option YardValue) (number : ℕ) (taken : Taken) (t : IsTaken meaning Stands old new number taken) (a b : O) (r : Result (Unit {0}) EmitFault) (status : Status)
      → Relays faults told aside (session_effects (opened nothing_told ∷ t.messages)) a r b → status ≡ status_relayed r taken.cause → RelayConcludes meaning old new number (told a) (told b) status
  relay_concludes meaning Stands old new number taken t a b r status relays is =
      rw is (relayed t.input t.messages taken.cause (status_relayed r taken.cause) t.come t.no_further t.lends (relayed_by (session_effects (opened nothing_told ∷ t.messages)) taken.cause a b r relays))

-- the input was taken, and there was no memory for the tables
pub relay_unsettled : (meaning : Meaning) (Stands : List EntryValue → Type 0) (old new : Option YardValue) (number : ℕ) (taken : Taken) (told : Option (List ℕ)) → IsTaken meaning Stands old new number taken → RelayConcludes meaning old new number told told NoMemory
relay_unsettled meaning Stands old new number taken told t = unsettled t.input t.messages taken.cause t.come t.no_further t.lends refl

-- the port was refused, or there was no memory
pub relay_untaken : {A : Type 0} (meaning : Meaning) (Stands : A → List EntryValue → Type 0) (old new : Option YardValue) (number : ℕ) (told : Option (List ℕ)) (status : Status) → FromYard meaning Stands old new number (Err status) → RelayConcludes meaning old new number told told status
relay_untaken meaning Stands old new number told YardFault from = unlent from refl
relay_untaken meaning Stands old new number told NoMemory from = untaken from refl
relay_untaken meaning Stands old new number told Done from = absurd from
relay_untaken meaning Stands old new number told Stopped from = absurd from
relay_untaken meaning Stands old new number told Usage from = absurd from
relay_untaken meaning Stands old new number told ReadFault from = absurd from
relay_untaken meaning Stands old new number told WriteFault from = absurd from
relay_untaken meaning Stands old new number told Unwritable from = absurd from
relay_untaken meaning Stands old new number told BadFile from = absurd from
relay_untaken meaning Stands old new number told BadArchive from = absurd from
relay_untaken meaning Stands old new number told DiskFault from = absurd from
relay_untaken meaning Stands old new number told ArchiveFull from = absurd from

-- a write fault is answered exactly where a write failed
pub relay_counts : (cause : Cause) (status : Status) (before now : ℕ) (r : Result (Unit {0}) EmitFault) → IsCounted before now r → status ≡ status_relayed r cause → AnswersFault before now status WriteFault
relay_counts cause status before now (Ok v) same is = record { rose = λ e. absurd (no_write_fault cause (sym is ∙ e)); calm = λ _. same }
relay_counts cause status before now (Err fault.Failed) rose is = record { rose = λ _. rose; calm = λ other. absurd (other is) }
relay_counts cause status before now (Err fault.Unwritable) same is = record { rose = λ e. absurd (cc (is, e)); calm = λ _. same }
relay_counts cause status before now (Err fault.NoMemory) same is = record { rose = λ e. absurd (cc (is, e)); calm = λ _. same }
