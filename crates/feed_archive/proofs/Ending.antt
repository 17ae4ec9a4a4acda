-- How an append ends.
use Rattle.std.proofs.Common.{◌≡◌, ℕ, ◌+◌, ◌-◌, ◌^◌, ◌<◌, ◌≤◌, List, ◌∷◌, [], ◌++◌, length, refl, sym, ◌∙◌, ap, subst, arith, length-append, Result, Ok, Err, Fits, w64}
use mathlib.Core.Bool.{true, false}
use Rattle.std.specs.Result.{OnOk, IsErrAnd}
use Rattle.byteorder.specs.Endian.{big_bytes}
use Rattle.wire_io.specs.Faults.{HasCause}
use Rattle.wire_io.specs.declared.sink.Failed.{Failed as DiskFailed}
use Rattle.disk_doors.specs.Images.{Moment, settled}
use Rattle.disk_doors.specs.Disk.{DiskValue, IsSound}
use Rattle.disk_doors.specs.Put.{Puts}
use Rattle.disk_doors.proofs.Passing.{sound_later, sound_smaller}
use Rattle.feed_archive.specs.Archive.{most_record, most_archive}
use Rattle.feed_archive.specs.Appending.{ArchiveValue, AppendAnswers, AppendCause, AppendPlanned}
use Rattle.feed_archive.specs.declared.fault.AppendFault.{AppendFault}
use Rattle.feed_archive.specs.declared.fault.AppendFault.TheVariants.{Failed}
use Rattle.feed_archive.proofs.Records.{length-record}
use Rattle.feed_archive.proofs.Appended.{tail_of}

-- the places, of which the last is the end of a record after this one
pub fits_one : (place : ℕ) → place < 2 ^ 31 → Fits w64 (place + 1)
fits_one place l = omega (arith, l)

pub fits_six : (place : ℕ) → place < 2 ^ 31 → Fits w64 (place + 6)
fits_six place l = omega (arith, l)

pub fits_end : (place size : ℕ) → place < 2 ^ 31 → size ≤ 65536 → Fits w64 (place + 6 + size)
fits_end place size l most = omega (arith, l, most)

pub end_some : (place size : ℕ) → 1 ≤ place + 6 + size
end_some place size = omega arith

pub end_within : (place size : ℕ) → place + 6 + size ≤ most_archive → place + 6 + size - 1 < 2 ^ 31
end_within place size fits = omega (arith, fits)

pub end_before : (place size : ℕ) → place + 5 + size ≡ place + 6 + size - 1
end_before place size = omega arith

-- all is kept after a step
pub kept_whole : (m : Moment) (file : List ℕ) → m ≡ settled file → m ≡ settled m.file
kept_whole m file is = is ∙ ap settled (sym (ap (λ (n : Moment). n.file) is))

-- the calls of the disk
pub few_none : (a : ℕ) → a ≤ a + 4
few_none a = omega arith

pub few_one : (a b : ℕ) → b ≤ a + 2 → b ≤ a + 4
few_one a b l = omega (arith, l)

pub few_two : (a b c : ℕ) → b ≤ a + 2 → c ≤ b + 2 → c ≤ a + 4
few_two a b c l m = omega (arith, l, m)

-- the disk failed
pub failed_on : (r : Result (Unit {0}) AppendFault) (P : Type 0) → IsErrAnd r (λ f. f ≡ Failed) → OnOk r P
failed_on (Ok u) P h = absurd h
failed_on (Err f) P h = tt

pub failed_answers : {D : Type 0} (old : ArchiveValue D) (disk : D) (place size : ℕ) (r : Result (Unit {0}) AppendFault) → IsErrAnd r (λ f. f ≡ Failed) → old.stopped ≡ false → old.place + 6 + size ≤ most_archive
    → AppendAnswers old (record { disk = disk; place = place; stopped = true }) size r
failed_answers old disk place size (Ok u) h going fits = absurd h
failed_answers old disk place size (Err f) h going fits = subst (λ (x : AppendFault). AppendAnswers old (record { disk = disk; place = place; stopped = true }) size (Err x)) (sym h) (going, fits, refl)

pub failed_planned : (d : DiskValue) (size : ℕ) (r : Result (Unit {0}) AppendFault) → IsErrAnd r (λ f. f ≡ Failed) → (IsSound d size → ⊥) → AppendPlanned d size r
failed_planned d size (Ok u) h not = absurd h
failed_planned d size (Err f) h not = subst (λ (x : AppendFault). AppendPlanned d size (Err x)) (sym h) not

pub failed_cause : (first before now : ℕ) (e : DiskFailed) (r : Result (Unit {0}) AppendFault) → IsErrAnd r (λ f. f ≡ Failed) → before ≡ first → HasCause {T = Unit {0}} before now (Err e) → AppendCause first now r
failed_cause first before now e (Ok u) h same c = absurd h
failed_cause first before now e (Err f) h same c = subst (λ (x : AppendFault). AppendCause first now (Err x)) (sym h) (subst (λ (n : ℕ). AppendCause n now (Err Failed)) same (c.later, c.failed))

length-tail : (piece : List ℕ) → length piece ≤ most_record → length (tail_of piece) ≡ 5 + length piece
length-tail piece size = omega (arith, length-append (big_bytes 4 (length piece) ++ piece) (0 ∷ []), length-record piece size)

module _ (old mid : DiskValue) (place : ℕ) (piece bytes : List ℕ) (size : length piece ≤ most_record) (is : bytes ≡ tail_of piece) where
  -- in the first step
  pub first_unsound : (e : DiskFailed) → Puts old mid (place + 1) bytes (Err e) → IsSound old (place + 6 + length piece) → ⊥
  first_unsound e p s = p.planned (sound_smaller old (place + 1 + length bytes) (place + 6 + length piece) (omega (arith, ap length is, length-tail piece size)) s)

  -- in the second
  pub second_unsound : (new : DiskValue) (u : Unit {0}) (e : DiskFailed) → Puts old mid (place + 1) bytes (Ok u) → Puts mid new place (1 ∷ []) (Err e) → IsSound old (place + 6 + length piece) → ⊥
  second_unsound new u e p q s = q.planned (sound_smaller mid (place + 1) (place + 6 + length piece) (omega arith) (sound_later old mid (place + 6 + length piece) p.passes.lasts s))
