-- What mistaken bodies would come to, which the clauses refuse.
use Rattle.std.proofs.Common.{◌≡◌, ℕ, max, min, false, List, [], ◌∷◌, ◌++◌, length, get_or, Option, None, inl, inr, refl, ap, ◌∙◌, arith, append-nil, length-append, unwrap_or}
use Rattle.ask_specs.specs.Asking.{plain, steps}
use Rattle.bmp_specs.specs.declared.causes.Cause.{Cause}
use Rattle.bmp_specs.specs.declared.causes.Cause.TheVariants.{Ended, Terminated, CutShort, Broken}
use Rattle.bmp_specs.specs.Life.{gave_none, Fits}
use Rattle.bmp_specs.specs.Meaning.{Meaning}
use Rattle.bmp_specs.specs.Openings.{nothing_told}
use Rattle.bmp_specs.specs.Query.{quit}
use Rattle.bmp_specs.specs.Values.{ClosingValue, EntryValue, OpeningValue, closed, opened}
use Rattle.bmp_specs.specs.Walk.{Verdict, whole, more, terminated, broken}
use Rattle.cut_publisher.specs.History.{batch}
use Rattle.query_lang.specs.declared.ask.Ask.TheVariants.{Changes}
use Rattle.station_core.specs.declared.event.Event.TheVariants.{Ask, Tell}
use Rattle.station_core.specs.Machine.{AreDue, MachineValue, Steps}
use Rattle.station_core.specs.Schedule.{unused}

-- a connection whose last read gave nothing has a cause of its end
not_live : (taken : ℕ) (verdict : Verdict) (offset : ℕ) → ((cause : Cause) → Fits taken gave_none verdict offset cause → ⊥) → ⊥
not_live taken whole offset none = none Ended (refl, refl)
not_live taken more offset none = none (CutShort offset) (refl, refl, refl)
not_live taken terminated offset none = none Terminated refl
not_live taken (broken why) offset none = none (Broken offset why) (refl, refl)

-- two openings are no life that ends with a closing
no_closing : (a b came : OpeningValue) (messages : List EntryValue) (closing : ClosingValue) → opened a ∷ opened b ∷ [] ≡ opened came ∷ (messages ++ closed closing ∷ []) → ⊥
no_closing a b came [] closing is = let same : opened a ∷ opened b ∷ [] ≡ opened came ∷ closed closing ∷ [] = is in cc
no_closing a b came (m ∷ ms) closing is = omega (arith, ap (λ (l : List EntryValue). length l) is, length-append ms (closed closing ∷ []))

-- The closing of a connection is lost, and an opening stands in its place: that isn't what is due of a connection that ended,
-- whatever bytes it gave.
a_second_opening_is_no_closing : (meaning : Meaning) (bytes : List ℕ) (a b : OpeningValue) → AreDue meaning (record { bytes = bytes; last = gave_none } ∷ []) (opened a ∷ opened b ∷ []) → ⊥
a_second_opening_is_no_closing meaning bytes a b (begins, none) =
    let life : opened a ∷ opened b ∷ [] ≡ begins.life = begins.split ∙ ap (λ (l : List EntryValue). begins.life ++ l) none ∙ append-nil begins.life in
    elim begins.is_life [
      | inl ends ↦ no_closing a b ends.life.came ends.life.messages (record { cause = ends.life.cause; until = ends.life.until }) (life ∙ ends.life.is)
      | inr is ↦ not_live (length bytes) is.live.verdict is.live.offset is.live.none
    ]

-- one lane, three entries of it in the history, and one asker that has seen so many
with_one_asker : ℕ → MachineValue
with_one_asker seen = record { history = batch 0 (opened nothing_told ∷ opened nothing_told ∷ opened nothing_told ∷ []); lanes = unused ∷ []; askers = seen ∷ [] }

-- An asker that has seen three entries is told of the first: it hasn't seen less then.
telling_lowers_nothing : (meaning : Meaning) (reply : List ℕ) → Steps meaning (Tell 0 1) (with_one_asker 3) (with_one_asker 1) reply → ⊥
unfolding with_one_asker
telling_lowers_nothing meaning reply (inr (marked, still)) = marked tt
telling_lowers_nothing meaning reply (inl (unmarked, (inr (few, same), none))) = omega (arith, few)
telling_lowers_nothing meaning reply (inl (unmarked, (inl (named, told), none))) =
    let seen : 3 ≡ told.seen = ap (λ (o : Option ℕ). unwrap_or o 0) told.at in
    let now : 1 ≡ min (max told.seen 1) 3 = ap (λ (m : MachineValue). get_or m.askers 0 0) told.is in
    omega (arith, seen, now)

-- All changes of a lane are asked for: something is written.
all_changes_have_a_reply : (meaning : Meaning) (new : MachineValue) → Steps meaning (Ask 0 (Changes false 0 0 None)) (with_one_asker 3) new [] → ⊥
unfolding with_one_asker
all_changes_have_a_reply meaning new (inr (marked, still)) = marked tt
all_changes_have_a_reply meaning new (inl (unmarked, inl answered)) = omega (arith, ap (λ (l : List ℕ). get_or l 0 0) answered.is_reply.told)
all_changes_have_a_reply meaning new (inl (unmarked, inr (inl few, still))) = omega (arith, few)
all_changes_have_a_reply meaning new (inl (unmarked, inr (inr quits, still))) = let same : steps false 0 0 None ≡ plain quit = quits in absurd cc
