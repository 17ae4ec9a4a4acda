-- What a connection comes to, by how its last read went.
use Rattle.std.proofs.Common.{◌≡◌, ◌≢◌, ℕ, zero, suc, ◌<◌, ◌≤◌, Bool, List, [], ◌++◌, length, sym, subst, arith, if◌then◌else◌, append-nil, length-append}
use Rattle.std.proofs.Math.Dec.{eqb-suc-zero}
use Rattle.bmp_specs.specs.declared.causes.Cause.{Cause}
use Rattle.bmp_specs.specs.declared.causes.Cause.TheVariants.{Ended, Terminated, CutShort, Broken, ReadFault, Full}
use Rattle.bmp_specs.specs.Life.{LastRead, gave, gave_none, failed, most_taken, IsUndecided, HasCome, EndsBy, cause_at_end}
use Rattle.bmp_specs.specs.Meaning.{Meaning, WalksBy}
use Rattle.bmp_specs.specs.Values.{EntryValue}
use Rattle.bmp_specs.specs.Walk.{whole, more, terminated, broken}
use Rattle.bmp_specs.proofs.LifeOne.{cause_of_termination, cause_of_break, cause_of_fullness, cause_of_end, cause_of_cut, cause_of_fault}
use Rattle.bmp_message.specs.StreamWalk.{verdict_with}

below_most : (n : ℕ) → n < most_taken → n ≢ most_taken
below_most n h e = omega (arith, h, e)

-- a walk that needs more, or none
pub undecided : (rest : ℕ) → IsUndecided (verdict_with rest)
undecided zero = tt
undecided (suc n) = subst (λ (b : Bool). IsUndecided (if b then whole else more)) (sym (eqb-suc-zero n)) tt

module _ (meaning : Meaning) (bytes : List ℕ) (messages : List EntryValue) (offset : ℕ) where
  -- the last read gave no byte
  pub come_end : (rest : ℕ) → length bytes < most_taken → WalksBy meaning bytes messages offset (verdict_with rest) → HasCome meaning (record { bytes = bytes; last = gave_none }) messages (cause_at_end rest offset)
  come_end zero room w = record { offset = offset; verdict = whole; within = omega (arith, room); walk = w; because = cause_of_end (length bytes) offset (below_most (length bytes) room) }
  come_end (suc n) room w = subst (λ (b : Bool). HasCome meaning (record { bytes = bytes; last = gave_none }) messages (if b then Ended else CutShort offset)) (sym (eqb-suc-zero n)) (record {
    offset = offset;
    verdict = more;
    within = omega (arith, room);
    walk = subst (λ (b : Bool). WalksBy meaning bytes messages offset (if b then whole else more)) (eqb-suc-zero n) w;
    because = cause_of_cut (length bytes) offset (below_most (length bytes) room);
  })

  -- the last read failed
  pub come_fault : (rest : ℕ) → length bytes < most_taken → WalksBy meaning bytes messages offset (verdict_with rest) → HasCome meaning (record { bytes = bytes; last = failed }) messages (ReadFault (length bytes))
  come_fault rest room w = record { offset = offset; verdict = verdict_with rest; within = omega (arith, room); walk = w; because = cause_of_fault (length bytes) (verdict_with rest) offset (undecided rest) (below_most (length bytes) room) }

  -- the limit was reached
  pub come_full : (rest : ℕ) → length bytes ≡ most_taken → WalksBy meaning bytes messages offset (verdict_with rest) → HasCome meaning (record { bytes = bytes; last = gave }) messages Full
  come_full rest full w = record { offset = offset; verdict = verdict_with rest; within = omega (arith, full); walk = w; because = cause_of_fullness (length bytes) gave (verdict_with rest) offset (undecided rest) full }

-- the walk ended in the bytes
pub come_early : (meaning : Meaning) (bytes : List ℕ) (messages : List EntryValue) (cause : Cause) → EndsBy meaning bytes messages cause → (after : List ℕ) (last : LastRead) → length (bytes ++ after) ≤ most_taken → HasCome meaning (record { bytes = bytes ++ after; last = last }) messages cause
come_early meaning bytes messages Terminated (offset, ends) after last within = record { offset = offset; verdict = terminated; within = within; walk = ends after; because = cause_of_termination (length (bytes ++ after)) last offset }
come_early meaning bytes messages (Broken offset why) ends after last within = record { offset = offset; verdict = broken why; within = within; walk = ends after; because = cause_of_break (length (bytes ++ after)) last why offset }
come_early meaning bytes messages Ended ends after last within = absurd ends
come_early meaning bytes messages (CutShort offset) ends after last within = absurd ends
come_early meaning bytes messages (ReadFault offset) ends after last within = absurd ends
come_early meaning bytes messages Full ends after last within = absurd ends

pub come_early_here : (meaning : Meaning) (bytes : List ℕ) (messages : List EntryValue) (cause : Cause) (last : LastRead) → EndsBy meaning bytes messages cause → length bytes ≤ most_taken → HasCome meaning (record { bytes = bytes; last = last }) messages cause
come_early_here meaning bytes messages cause last ends within = subst (λ (l : List ℕ). HasCome meaning (record { bytes = l; last = last }) messages cause) (append-nil bytes) (come_early meaning bytes messages cause ends [] last (omega (arith, within, length-append bytes [])))
