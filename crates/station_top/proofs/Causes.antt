-- What a connection comes to, by how its last read went.
use Rattle.std.proofs.Common.{◌≡◌, ℕ, zero, suc, ◌≤◌, Bool, List, [], ◌++◌, length, take, refl, sym, ◌∙◌, ap, subst, arith, if◌then◌else◌, append-nil, length-append, length-take, ◌+◌, ◌-◌}
use Rattle.std.proofs.Math.Dec.{eqb-suc-zero}
use Rattle.std.proofs.Math.Seq.{take-append-add, take-append_seam}
use Rattle.std.proofs.lemmas.List.{take_all}
use Rattle.bmp_specs.specs.declared.causes.Cause.{Cause}
use Rattle.bmp_specs.specs.declared.causes.Cause.TheVariants.{Ended, Terminated, CutShort, Broken, ReadFault, Full}
use Rattle.bmp_specs.specs.Life.{LastRead, gave_none, failed, most_taken, IsUndecided, IsCause, HasCome, cause_at_end}
use Rattle.bmp_specs.specs.Meaning.{Meaning}
use Rattle.bmp_specs.specs.Values.{EntryValue}
use Rattle.bmp_specs.specs.Walk.{Verdict, whole, more, terminated, broken}
use Rattle.bmp_specs.proofs.LifeOne.{cause_of_fullness, cause_of_end, cause_of_fault}
use Rattle.station_doors.proofs.ReadLaws.{most_of}
use Rattle.station_top.specs.Take.{IsEarly}

-- a connection that ended isn't decided by its bytes
pub not_early : (rest offset : ℕ) → IsEarly (cause_at_end rest offset) → ⊥
not_early zero offset e = e
not_early (suc n) offset e = subst (λ (b : Bool). IsEarly (if b then Ended else CutShort offset)) (eqb-suc-zero n) e

-- nothing was taken
pub come_none : (meaning : Meaning) → HasCome meaning (record { bytes = []; last = gave_none }) [] Ended
come_none meaning = record { offset = 0; verdict = whole; within = omega arith; walk = (refl, refl); because = cause_of_end 0 0 (λ e. omega (arith, e)) }

pub come_unopened : (meaning : Meaning) → HasCome meaning (record { bytes = []; last = failed }) [] (ReadFault 0)
come_unopened meaning = record { offset = 0; verdict = whole; within = omega arith; walk = (refl, refl); because = cause_of_fault 0 whole 0 tt (λ e. omega (arith, e)) }

-- a full connection, whatever its last read was
full_undecided : (taken : ℕ) (last : LastRead) (v : Verdict) (offset : ℕ) → IsCause taken last v offset Full → IsUndecided v
full_undecided taken last whole offset c = tt
full_undecided taken last more offset c = tt
full_undecided taken last terminated offset c = c.first Terminated (omega arith) refl
full_undecided taken last (broken why) offset c = c.first (Broken offset why) (omega arith) (refl, refl)

-- What a connection with these bytes comes to, where no read fails: the same, whatever its pieces.
module _ (meaning : Meaning) (b bytes rest : List ℕ) (last : LastRead) (messages : List EntryValue) (split : b ≡ bytes ++ rest) (whole' : last ≡ gave_none → rest ≡ []) (calm : last ≡ failed → ⊥) where
  as_early : (cause : Cause) → length bytes ≤ most_taken → ((after : List ℕ) (at : LastRead) → length (bytes ++ after) ≤ most_taken → HasCome meaning (record { bytes = bytes ++ after; last = at }) messages cause)
      → HasCome meaning (record { bytes = take most_taken b; last = gave_none }) messages cause
  as_early cause within early =
      let tail = take (most_taken - length bytes) rest in
      let same : take most_taken b ≡ bytes ++ tail = ap (λ (l : List ℕ). take most_taken l) split ∙ most_of bytes rest within in
      subst (λ (l : List ℕ). HasCome meaning (record { bytes = l; last = gave_none }) messages cause) (sym same) (early tail gave_none (omega (arith, within, length-append bytes tail, length-take (most_taken - length bytes) rest)))

  as_ended : (cause : Cause) → length bytes ≤ most_taken → last ≡ gave_none → HasCome meaning (record { bytes = bytes; last = last }) messages cause → HasCome meaning (record { bytes = take most_taken b; last = gave_none }) messages cause
  as_ended cause within end come =
      let all : b ≡ bytes = split ∙ ap (λ (l : List ℕ). bytes ++ l) (whole' end) ∙ append-nil bytes in
      let same : take most_taken b ≡ bytes = ap (λ (l : List ℕ). take most_taken l) all ∙ take_all most_taken bytes within in
      subst (λ (l : List ℕ). HasCome meaning (record { bytes = l; last = gave_none }) messages cause) (sym same) (subst (λ (r : LastRead). HasCome meaning (record { bytes = bytes; last = r }) messages cause) end come)

  as_full : HasCome meaning (record { bytes = bytes; last = last }) messages Full → HasCome meaning (record { bytes = take most_taken b; last = gave_none }) messages Full
  as_full come =
      let full : length bytes ≡ most_taken = come.because.fits in
      let same : take most_taken b ≡ bytes = ap (λ (l : List ℕ). take most_taken l) split ∙ ap (λ (n : ℕ). take n (bytes ++ rest)) (sym full) ∙ take-append_seam bytes rest in
      subst (λ (l : List ℕ). HasCome meaning (record { bytes = l; last = gave_none }) messages Full) (sym same) (record {
        offset = come.offset;
        verdict = come.verdict;
        within = come.within;
        walk = come.walk;
        because = cause_of_fullness (length bytes) gave_none come.verdict come.offset (full_undecided (length bytes) last come.verdict come.offset come.because) full;
      })

  pub come_of : (cause : Cause) → HasCome meaning (record { bytes = bytes; last = last }) messages cause
      → (IsEarly cause → (after : List ℕ) (at : LastRead) → length (bytes ++ after) ≤ most_taken → HasCome meaning (record { bytes = bytes ++ after; last = at }) messages cause)
      → HasCome meaning (record { bytes = take most_taken b; last = gave_none }) messages cause
  come_of Terminated come early = as_early Terminated come.within (early tt)
  come_of (Broken offset why) come early = as_early (Broken offset why) come.within (early tt)
  come_of Ended come early = as_ended Ended come.within come.because.fits.0 come
  come_of (CutShort offset) come early = as_ended (CutShort offset) come.within come.because.fits.0 come
  come_of Full come early = as_full come
  come_of (ReadFault offset) come early = absurd (calm come.because.fits.0)
