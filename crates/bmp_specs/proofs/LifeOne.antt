-- A connection has one life: one cause is the first that fits, and its bytes have one walk.
use Rattle.std.proofs.Common.{◌≡◌, ◌≢◌, ℕ, ◌<◌, inl, inr, List, [], ◌∷◌, ◌++◌, length, refl, sym, ◌∙◌, ap, subst, arith}
use Rattle.std.proofs.lemmas.Bool.{cases_lt}
use Rattle.bmp_specs.specs.declared.causes.Why.{Why}
use Rattle.bmp_specs.specs.declared.causes.Cause.{Cause}
use Rattle.bmp_specs.specs.declared.causes.Cause.TheVariants.{Ended, Terminated, CutShort, Broken, ReadFault, Full}
use Rattle.bmp_specs.specs.Values.{EntryValue, opened, closed}
use Rattle.bmp_specs.specs.Walk.{Verdict, whole, more, terminated, broken}
use Rattle.bmp_specs.specs.Meaning.{Meaning, IsExact}
use Rattle.bmp_specs.specs.Life.{LastRead, gave_none, failed, most_taken, Fits, cause_rank, IsCause, IsLife, IsUndecided}
use Rattle.bmp_specs.proofs.WalkOne.{walk_one}

-- causes of one rank that fit are one
same_rank : (taken : ℕ) (last : LastRead) (v : Verdict) (offset : ℕ) (c d : Cause) → cause_rank c ≡ cause_rank d → Fits taken last v offset c → Fits taken last v offset d → c ≡ d
same_rank taken last v offset Terminated Terminated e p q = refl
same_rank taken last v offset (Broken at why) (Broken place reason) e p q = cc
same_rank taken last v offset Full Full e p q = refl
same_rank taken last v offset Ended Ended e p q = refl
same_rank taken last v offset (CutShort at) (CutShort place) e p q = cc
same_rank taken last v offset (ReadFault at) (ReadFault place) e p q = cc
same_rank taken last v offset c d e p q = absurd (omega arith)

pub cause_one : (taken : ℕ) (last : LastRead) (v : Verdict) (offset : ℕ) (c d : Cause) → IsCause taken last v offset c → IsCause taken last v offset d → c ≡ d
cause_one taken last v offset c d p q = elim (cases_lt (cause_rank c) (cause_rank d)) [
  | inl less ↦ absurd (q.first c less p.fits)
  | inr more' ↦ elim (cases_lt (cause_rank d) (cause_rank c)) [
    | inl greater ↦ absurd (p.first d greater q.fits)
    | inr same ↦ same_rank taken last v offset c d (omega arith) p.fits q.fits
  ]
]

-- the first cause that fits, by the verdict of the walk
pub cause_of_termination : (taken : ℕ) (last : LastRead) (offset : ℕ) → IsCause taken last terminated offset Terminated
cause_of_termination taken last offset = record { fits = refl; first = λ other lower fits. omega arith }

pub cause_of_break : (taken : ℕ) (last : LastRead) (why : Why) (offset : ℕ) → IsCause taken last (broken why) offset (Broken offset why)
cause_of_break taken last why offset = record { fits = (refl, refl); first = first }
  where
    first : (other : Cause) → cause_rank other < 1 → Fits taken last (broken why) offset other → ⊥
    first Terminated lower fits = cc
    first other lower fits = omega arith

-- a walk that isn't decided is neither terminated nor broken
undecided_first : (taken : ℕ) (last : LastRead) (v : Verdict) (offset : ℕ) → IsUndecided v → (other : Cause) → cause_rank other < 2 → Fits taken last v offset other → ⊥
undecided_first taken last v offset u Terminated lower fits = subst IsUndecided fits u
undecided_first taken last v offset u (Broken at why) lower fits = subst IsUndecided fits.0 u
undecided_first taken last v offset u other lower fits = omega arith

pub cause_of_fullness : (taken : ℕ) (last : LastRead) (v : Verdict) (offset : ℕ) → IsUndecided v → taken ≡ most_taken → IsCause taken last v offset Full
cause_of_fullness taken last v offset u full = record { fits = full; first = undecided_first taken last v offset u }

pub cause_of_end : (taken offset : ℕ) → taken ≢ most_taken → IsCause taken gave_none whole offset Ended
cause_of_end taken offset room = record { fits = (refl, refl); first = first }
  where
    first : (other : Cause) → cause_rank other < 3 → Fits taken gave_none whole offset other → ⊥
    first Terminated lower fits = cc
    first (Broken at why) lower fits = let e = fits.0 in cc
    first Full lower fits = room fits
    first other lower fits = omega arith

pub cause_of_cut : (taken offset : ℕ) → taken ≢ most_taken → IsCause taken gave_none more offset (CutShort offset)
cause_of_cut taken offset room = record { fits = (refl, refl, refl); first = first }
  where
    first : (other : Cause) → cause_rank other < 4 → Fits taken gave_none more offset other → ⊥
    first Terminated lower fits = cc
    first (Broken at why) lower fits = let e = fits.0 in cc
    first Full lower fits = room fits
    first Ended lower fits = let e = fits.1 in cc
    first other lower fits = omega arith

pub cause_of_fault : (taken : ℕ) (v : Verdict) (offset : ℕ) → IsUndecided v → taken ≢ most_taken → IsCause taken failed v offset (ReadFault taken)
cause_of_fault taken v offset u room = record { fits = (refl, refl); first = first }
  where
    first : (other : Cause) → cause_rank other < 5 → Fits taken failed v offset other → ⊥
    first Terminated lower fits = undecided_first taken failed v offset u Terminated (omega arith) fits
    first (Broken at why) lower fits = undecided_first taken failed v offset u (Broken at why) (omega arith) fits
    first Full lower fits = room fits
    first Ended lower fits = let e = fits.0 in cc
    first (CutShort at) lower fits = let e = fits.0 in cc
    first (ReadFault at) lower fits = omega arith

-- bytes and a last read have one life, but for what the port told
pub life_one : (meaning : Meaning) → IsExact meaning → (bytes : List ℕ) (last : LastRead) (a b : List EntryValue) (p : IsLife meaning bytes last a) (q : IsLife meaning bytes last b) → p.came ≡ q.came → p.until ≡ q.until → a ≡ b
life_one meaning exact bytes last a b p q same_opening same_until =
    let walks = walk_one meaning.Means exact meaning.start bytes p.messages q.messages p.offset q.offset p.verdict q.verdict p.walk q.walk in
    let moved = subst (λ (v : Verdict). IsCause (length bytes) last v q.offset p.cause) walks.2 (subst (λ (o : ℕ). IsCause (length bytes) last p.verdict o p.cause) walks.1 p.because) in
    let cause = cause_one (length bytes) last q.verdict q.offset p.cause q.cause moved q.because in
    p.is ∙ (λ i. opened (same_opening i) ∷ (walks.0 i ++ closed (record { cause = cause i; until = same_until i }) ∷ [])) ∙ sym q.is
