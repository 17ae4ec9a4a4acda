-- The entries of a walk, handed to an account one after another.
use Rattle.std.proofs.Common.{◌≡◌, ℕ, ◌+◌, ◌-◌, ◌^◌, min, List, [], ◌∷◌, ◌++◌, sym, subst, arith, length-append}
use Rattle.bmp_specs.specs.declared.causes.Why.{Why}
use Rattle.bmp_specs.specs.declared.causes.Cause.TheVariants.{Terminated, Broken}
use Rattle.bmp_specs.specs.Life.{EndsAt}
use Rattle.bmp_specs.specs.Meaning.{Meaning}
use Rattle.bmp_specs.specs.Openings.{nothing_told}
use Rattle.bmp_specs.specs.Values.{EntryValue, opened}
use Rattle.bmp_specs.specs.Walk.{broken}
use Rattle.bmp_message.specs.StreamWalk.{WalkValue, HasReached, GoesOn}
use Rattle.station_top.specs.Account.{HasNoted, HasDrawn, IsDrained, IsEnded}
use Rattle.bmp_message.specs.declared.walk.Progress.TheVariants as progress

-- one more entry was noted
noted_more : (Stands Next : List EntryValue → Type 0) (messages : List EntryValue) (e : EntryValue) (revision now : ℕ) → HasNoted Stands messages revision → ((es : List EntryValue) → Stands es → Next (es ++ e ∷ [])) → now ≡ min (revision + 1) (2 ^ 64 - 1)
    → HasNoted Next (messages ++ e ∷ []) now
noted_more Stands Next messages e revision now n step more = record { noted = step (opened nothing_told ∷ messages) n.noted; count = omega (arith, n.count, more, length-append messages (e ∷ [])) }

module _ (R : Type 0) (meaning : Meaning) (state : R → meaning.State) (Stands : List EntryValue → Type 0) (fed : List ℕ) (walk : WalkValue R) (revision : ℕ) (h : HasDrawn meaning state Stands fed walk revision) (new : WalkValue R) {T : Type 0} (IsOf : T → EntryValue → Type 0) where
  pub draws_entry : (Next : List EntryValue → Type 0) (item : T) (now : ℕ) → ((given : List EntryValue) → HasReached meaning state fed given walk → GoesOn meaning state IsOf fed given new (progress.Message item))
      → ((e : EntryValue) → IsOf item e → (es : List EntryValue) → Stands es → Next (es ++ e ∷ [])) → now ≡ min (revision + 1) (2 ^ 64 - 1) → HasDrawn meaning state Next fed new now
  draws_entry Next item now goes step more =
      let p = goes h.messages h.reached in
      record { messages = h.messages ++ p.0 ∷ []; reached = p.2; noted = noted_more Stands Next h.messages p.0 revision now h.noted (step p.0 p.1) more }

  pub draws_more : ((given : List EntryValue) → HasReached meaning state fed given walk → GoesOn meaning state IsOf fed given new progress.More) → IsDrained meaning state Stands fed new revision
  draws_more goes = let p = goes h.messages h.reached in record { messages = h.messages; reached = p.0; walks = p.1; noted = h.noted }

  pub draws_terminated : ((given : List EntryValue) → HasReached meaning state fed given walk → GoesOn meaning state IsOf fed given new progress.Terminated) → IsEnded meaning Stands fed revision Terminated
  draws_terminated goes = let p = goes h.messages h.reached in record { messages = h.messages; ends = (new.offset, p.1); noted = h.noted }

  pub draws_broken : (offset : ℕ) (why : Why) → offset ≡ new.offset → ((given : List EntryValue) → HasReached meaning state fed given walk → GoesOn meaning state IsOf fed given new (progress.Broken why)) → IsEnded meaning Stands fed revision (Broken offset why)
  draws_broken offset why place goes =
      let p = goes h.messages h.reached in
      record { messages = h.messages; ends = subst (λ (n : ℕ). EndsAt meaning fed h.messages n (broken why)) (sym place) p.1; noted = h.noted }
