-- Lives of connections, one after another, and how a connection goes on or ends.
use Rattle.std.proofs.Common.{◌≡◌, ◌≢◌, ℕ, zero, suc, ◌*◌, ◌^◌, ◌<◌, ◌≤◌, Bool, true, false, List, [], ◌∷◌, ◌++◌, length, None, inl, inr, refl, sym, ap, ◌∙◌, subst, append-nil, append_assoc, arith, length-append, if◌then◌else◌}
use Rattle.std.proofs.Math.Dec.{eqb-suc-zero}
use Rattle.bmp_specs.specs.declared.causes.Cause.{Cause}
use Rattle.bmp_specs.specs.declared.causes.Cause.TheVariants.{Ended, Terminated, CutShort, Broken, ReadFault, Full}
use Rattle.bmp_specs.specs.Life.{gave, gave_none, most_taken, Fits, IsCause, IsLife, IsUndecided, Given, EndsBy}
use Rattle.bmp_specs.specs.Meaning.{Meaning, WalksBy}
use Rattle.bmp_specs.specs.Openings.{closing_for, nothing_told}
use Rattle.bmp_specs.specs.Values.{EntryValue, opened, closed}
use Rattle.bmp_specs.specs.Walk.{Verdict, whole, more, terminated, broken}
use Rattle.bmp_specs.proofs.LifeOne.{cause_of_termination, cause_of_break, cause_of_fullness, cause_of_end, cause_of_cut, cause_of_fault}
use Rattle.bmp_message.specs.StreamWalk.{verdict_with}
use Rattle.station_core.specs.Machine.{AreDue, HasEnded, IsLifeSoFar, IsLive, with_end}
use Rattle.station_core.specs.Taking.{cause_of_close}
use Rattle.station_core.proofs.Lengths.{few_messages}

-- one more life
pub due_more : (meaning : Meaning) (cs : List Given) (c : Given) (due life : List EntryValue) → AreDue meaning cs due → IsLifeSoFar meaning c life → AreDue meaning (cs ++ c ∷ []) (due ++ life)
due_more meaning [] c due life none is = (record { life = life; after = []; split = ap (λ (l : List EntryValue). l ++ life) none ∙ sym (append-nil life); is_life = is }, refl)
due_more meaning (d ∷ cs) c due life (begins, rest) is =
    (record { life = begins.life; after = begins.after ++ life; split = ap (λ (l : List EntryValue). l ++ life) begins.split ∙ append_assoc begins.life begins.after life; is_life = begins.is_life }, due_more meaning cs c begins.after life rest is)

-- a life is short
life_few : (meaning : Meaning) (c : Given) (life : List EntryValue) → IsLifeSoFar meaning c life → length life ≤ 2 ^ 44
life_few meaning c life (inl untold) =
    let is = untold.life in
    omega (arith, few_messages meaning c.bytes is.messages is.offset is.verdict is.walk, is.within, ap length is.is, length-append is.messages (closed (record { cause = is.cause; until = is.until }) ∷ []))
life_few meaning c life (inr untold) = let is = untold.life in omega (arith, few_messages meaning c.bytes is.messages is.offset is.verdict is.walk, is.within, ap length is.is)

pub due_few : (meaning : Meaning) (cs : List Given) (due : List EntryValue) → AreDue meaning cs due → length due ≤ length cs * 2 ^ 44
due_few meaning [] due none = omega (arith, ap length none)
due_few meaning (c ∷ cs) due (begins, rest) = omega (arith, ap length begins.split, length-append begins.life begins.after, life_few meaning c begins.life begins.is_life, due_few meaning cs begins.after rest)

below_most : (n : ℕ) → n < most_taken → n ≢ most_taken
below_most n h e = omega (arith, h, e)

-- a walk that needs more, or none
pub undecided : (rest : ℕ) → IsUndecided (verdict_with rest)
undecided zero = tt
undecided (suc n) = subst (λ (b : Bool). IsUndecided (if b then whole else more)) (sym (eqb-suc-zero n)) tt

-- a connection that goes on is live
no_cause : (taken : ℕ) (v : Verdict) (offset : ℕ) → IsUndecided v → taken < most_taken → (cause : Cause) → Fits taken gave v offset cause → ⊥
no_cause taken v offset u room Terminated fits = subst IsUndecided fits u
no_cause taken v offset u room (Broken at why) fits = subst IsUndecided fits.0 u
no_cause taken v offset u room Full fits = omega (arith, room, fits)
no_cause taken v offset u room Ended fits = let e = fits.0 in cc
no_cause taken v offset u room (CutShort at) fits = let e = fits.0 in cc
no_cause taken v offset u room (ReadFault at) fits = let e = fits.0 in cc

module _ (meaning : Meaning) (bytes : List ℕ) (messages : List EntryValue) (offset rest : ℕ) (walk : WalksBy meaning bytes messages offset (verdict_with rest)) where
  pub live_going : length bytes < most_taken → IsLive meaning (record { bytes = bytes; last = gave })
  live_going room = record { messages = messages; offset = offset; verdict = verdict_with rest; walk = walk; none = no_cause (length bytes) (verdict_with rest) offset (undecided rest) room }

  pub so_far : length bytes < most_taken → IsLifeSoFar meaning (record { bytes = bytes; last = gave }) (opened nothing_told ∷ messages)
  so_far room = inr (record {
    live = live_going room;
    life = record { messages = messages; offset = offset; verdict = verdict_with rest; came = nothing_told; within = omega (arith, room); walk = walk; is = refl };
    nothing = refl;
  })

-- a connection ended for a cause: the messages of its walk are these
abbrev pub EndsWith : Meaning → Given → List EntryValue → Cause → Type 0
EndsWith meaning c messages cause = (offset : ℕ) × (verdict : Verdict) × (length c.bytes ≤ most_taken) × WalksBy meaning c.bytes messages offset verdict × IsCause (length c.bytes) c.last verdict offset cause

module _ (meaning : Meaning) (c : Given) (messages : List EntryValue) (cause : Cause) (e : EndsWith meaning c messages cause) where
  abbrev untold_life : IsLife meaning c.bytes c.last (opened nothing_told ∷ (messages ++ closed (closing_for cause) ∷ []))
  untold_life = record { messages = messages; offset = e.0; verdict = e.1; cause = cause; came = nothing_told; until = None; within = e.2; walk = e.3; because = e.4; is = refl }

  pub ended_life : HasEnded meaning c
  ended_life = (opened nothing_told ∷ (messages ++ closed (closing_for cause) ∷ []), untold_life)

  pub life_ended : IsLifeSoFar meaning c (opened nothing_told ∷ (messages ++ closed (closing_for cause) ∷ []))
  life_ended = inl (record { life = untold_life; nothing = refl; never = refl })

module _ (meaning : Meaning) (bytes : List ℕ) (messages : List EntryValue) (offset : ℕ) where
  -- the last read failed, or gave no byte
  pub ends_last : (fault : Bool) (rest : ℕ) → length bytes < most_taken → WalksBy meaning bytes messages offset (verdict_with rest) → EndsWith meaning (with_end fault (record { bytes = bytes; last = gave })) messages (cause_of_close fault (length bytes) rest offset)
  ends_last true rest room w = (offset, verdict_with rest, omega (arith, room), w, cause_of_fault (length bytes) (verdict_with rest) offset (undecided rest) (below_most (length bytes) room))
  ends_last false zero room w = (offset, whole, omega (arith, room), w, cause_of_end (length bytes) offset (below_most (length bytes) room))
  ends_last false (suc n) room w = subst (λ (b : Bool). EndsWith meaning (record { bytes = bytes; last = gave_none }) messages (if b then Ended else CutShort offset)) (sym (eqb-suc-zero n))
      (offset, more, omega (arith, room), subst (λ (b : Bool). WalksBy meaning bytes messages offset (if b then whole else more)) (eqb-suc-zero n) w, cause_of_cut (length bytes) offset (below_most (length bytes) room))

  -- the most bytes were taken
  pub ends_full : (rest : ℕ) → length bytes ≡ most_taken → WalksBy meaning bytes messages offset (verdict_with rest) → EndsWith meaning (record { bytes = bytes; last = gave }) messages Full
  ends_full rest full w = (offset, verdict_with rest, omega (arith, full), w, cause_of_fullness (length bytes) gave (verdict_with rest) offset (undecided rest) full)

-- the walk ended in the bytes
pub ends_early : (meaning : Meaning) (bytes : List ℕ) (messages : List EntryValue) (cause : Cause) → EndsBy meaning bytes messages cause → length bytes ≤ most_taken → EndsWith meaning (record { bytes = bytes; last = gave }) messages cause
ends_early meaning bytes messages Terminated (offset, ends) within = (offset, terminated, within, subst (λ (l : List ℕ). WalksBy meaning l messages offset terminated) (append-nil bytes) (ends []), cause_of_termination (length bytes) gave offset)
ends_early meaning bytes messages (Broken offset why) ends within = (offset, broken why, within, subst (λ (l : List ℕ). WalksBy meaning l messages offset (broken why)) (append-nil bytes) (ends []), cause_of_break (length bytes) gave why offset)
ends_early meaning bytes messages Ended ends within = absurd ends
ends_early meaning bytes messages (CutShort offset) ends within = absurd ends
ends_early meaning bytes messages (ReadFault offset) ends within = absurd ends
ends_early meaning bytes messages Full ends within = absurd ends
