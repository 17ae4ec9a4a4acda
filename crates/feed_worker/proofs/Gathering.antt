-- The messages of a walk, gathered one after another, and published.
use Rattle.std.proofs.Common.{◌≡◌, ℕ, ◌+◌, ◌*◌, ◌^◌, ◌≤◌, List, [], ◌∷◌, ◌++◌, length, Option, Some, None, sym, ap, ◌∙◌, subst, append_assoc, arith, length-append}
use Rattle.std.proofs.lemmas.List.{map-append, length-map}
use Rattle.bmp_specs.specs.declared.causes.Why.{Why}
use Rattle.bmp_specs.specs.declared.causes.Cause.{Cause}
use Rattle.bmp_specs.specs.declared.causes.Cause.TheVariants.{Ended, Terminated, CutShort, Broken, ReadFault, Full}
use Rattle.bmp_specs.specs.Life.{most_taken, EndsAt, EndsBy}
use Rattle.bmp_specs.specs.Meaning.{Meaning}
use Rattle.bmp_specs.specs.Values.{EntryValue, OpeningValue, opened}
use Rattle.bmp_specs.specs.Walk.{terminated, broken}
use Rattle.bmp_message.specs.StreamWalk.{WalkValue, HasReached, GoesOn, rest_of, verdict_with, Gives}
use Rattle.bmp_message.specs.declared.walk.Progress.TheVariants as progress
use Rattle.cut_publisher.specs.History.{Fed}
use Rattle.rib_model.specs.declared.entry.Entry.{Entry}
use Rattle.rib_model.specs.Entries.{entry_value, entry_values}
use Rattle.feed_worker.specs.Publishing.{Grows}
use Rattle.feed_worker.specs.Walking.{HasPublished, Publishes}
use Rattle.feed_worker.proofs.Lengths.{few_messages}
use Rattle.feed_worker.proofs.Growing.{grows_then, grows_count}

-- a walk has few messages, whether it ended or not
ends_few : (meaning : Meaning) (fed : List ℕ) (messages : List EntryValue) (cause : Cause) → EndsBy meaning fed messages cause → 6 * length messages ≤ length fed
ends_few meaning fed messages Terminated (offset, ends) = omega (arith, few_messages meaning (fed ++ []) messages offset terminated (ends []), length-append fed [])
ends_few meaning fed messages (Broken offset why) ends = omega (arith, few_messages meaning (fed ++ []) messages offset (broken why) (ends []), length-append fed [])
ends_few meaning fed messages Ended ends = absurd ends
ends_few meaning fed messages (CutShort offset) ends = absurd ends
ends_few meaning fed messages (ReadFault offset) ends = absurd ends
ends_few meaning fed messages Full ends = absurd ends

module _ {B : Type 0} (meaning : Meaning) (state : B → meaning.State) where
  -- one more message was gathered
  pub gathers_more : (fed : List ℕ) (given : List EntryValue) (entries : List Entry) (entry : Entry) (walk : WalkValue B) → GoesOn meaning state (λ item e. e ≡ entry_value item) fed (given ++ entry_values entries) walk (progress.Message entry)
      → HasReached meaning state fed (given ++ entry_values (entries ++ entry ∷ [])) walk
  gathers_more fed given entries entry walk (value, is, reached) =
      let last : value ∷ [] ≡ entry_values (entry ∷ []) = ap (λ (v : EntryValue). v ∷ []) is in
      let all : (given ++ entry_values entries) ++ value ∷ [] ≡ given ++ entry_values (entries ++ entry ∷ []) =
      append_assoc given (entry_values entries) (value ∷ []) ∙ ap (λ (l : List EntryValue). given ++ l) (ap (λ (l : List EntryValue). entry_values entries ++ l) last ∙ sym (map-append entry_value entries (entry ∷ []))) in
      subst (λ (l : List EntryValue). HasReached meaning state fed l walk) all reached

  -- where the walk ended
  pub gives_broken : (fed : List ℕ) (messages : List EntryValue) (walk : WalkValue B) (offset : ℕ) (why : Why) → offset ≡ walk.offset → EndsAt meaning fed messages walk.offset (broken why) → Gives meaning state fed messages walk (Some (Broken offset why))
  gives_broken fed messages walk offset why place ends = subst (λ (n : ℕ). EndsAt meaning fed messages n (broken why)) (sym place) ends

  gives_few : (fed : List ℕ) (messages : List EntryValue) (walk : WalkValue B) (end : Option Cause) → Gives meaning state fed messages walk end → 6 * length messages ≤ length fed
  gives_few fed messages walk None g = few_messages meaning fed messages walk.offset (verdict_with (rest_of walk)) g.walks
  gives_few fed messages walk (Some cause) ends = ends_few meaning fed messages cause ends

  -- all messages of a piece are published
  module _ (came : OpeningValue) (first now : Fed Entry) (fed piece : List ℕ) (walk after : WalkValue B) (p : HasPublished meaning state came first now fed walk) (entries : List Entry) (end : Option Cause) (gives : Gives meaning state (fed ++ piece) (p.messages ++ entry_values entries) after end) where
    pub room_for : length first.entries + 2 ^ 44 ≤ 2 ^ 57 → length fed + length piece ≤ most_taken → length (now.entries ++ entries) ≤ 2 ^ 57
    room_for room within =
        omega (arith, room, within, gives_few (fed ++ piece) (p.messages ++ entry_values entries) after end gives, length-append fed piece, length-append p.messages (entry_values entries), length-map entries entry_value, grows_count first now (opened came ∷ p.messages) p.grows, length-append now.entries entries)

    pub publishes : (new : Fed Entry) → Grows now new (entry_values entries) → Publishes meaning state came first new (fed ++ piece) after end
    publishes new grows = record { messages = p.messages ++ entry_values entries; gives = gives; grows = grows_then first now new (opened came ∷ p.messages) (entry_values entries) p.grows grows }
