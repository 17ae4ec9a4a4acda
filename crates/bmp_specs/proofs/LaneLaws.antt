-- What an opening, a message and a closing at the end of a lane do to its counts. SessionLaws has the state, the messages
-- and the effects.
use Rattle.std.proofs.Common.{◌≡◌, ℕ, ◌+◌, List, [], ◌∷◌, ◌++◌, length, sym, ap, ◌∙◌, length-append}
use Rattle.std.specs.Prelude.{count_by, sum_by}
use Rattle.bmp_specs.specs.Check.{length_of}
use Rattle.bmp_specs.specs.Counts.{CountsValue, counts_of, is_orphan, is_mirrored, is_passed, parts_in}
use Rattle.bmp_specs.specs.Reply.{told_count}
use Rattle.bmp_specs.specs.Session.{live, state_of, session_messages, session_effects}
use Rattle.bmp_specs.specs.Sums.{no_counts, sum_of, message_counts}
use Rattle.bmp_specs.specs.Values.{ClosingValue, EffectValue, EntryValue, HeadValue, OpeningValue, opened, message, closed}
use Rattle.bmp_specs.proofs.CountLaws.{sum_pushed, orphans_append, unread_append, mirrored_append, passed_append}
use Rattle.bmp_specs.proofs.ReplyCounts.{told_sum}
use Rattle.bmp_specs.proofs.SessionLaws.{messages_after_opening, messages_after_closing, messages_after_message, messages_stay, effects_after_opening, effects_after_closing, effects_after_message, effects_stay}

-- the counts of these messages and of their effects
abbrev counts_by : List EntryValue → List EffectValue → CountsValue
counts_by messages effects = record {
  messages = told_count (length messages);
  bytes = told_count (sum_by length_of messages);
  orphans = told_count (count_by is_orphan effects);
  unread = told_count (sum_by parts_in effects);
  mirrored = told_count (count_by is_mirrored effects);
  passed = told_count (count_by is_passed effects);
}

pub counts_after_opening : (entries : List EntryValue) (came : OpeningValue) → counts_of (entries ++ opened came ∷ []) ≡ no_counts
counts_after_opening entries came = let messages = messages_after_opening entries came in let effects = effects_after_opening entries came in λ i. counts_by (messages i) (effects i)

pub counts_after_closing : (entries : List EntryValue) (closing : ClosingValue) → counts_of (entries ++ closed closing ∷ []) ≡ no_counts
counts_after_closing entries closing = let messages = messages_after_closing entries closing in let effects = effects_after_closing entries closing in λ i. counts_by (messages i) (effects i)

pub counts_stay : (entries : List EntryValue) (head : HeadValue) (effects : List EffectValue) → (state_of entries ≡ live → ⊥) → counts_of (entries ++ message head effects ∷ []) ≡ counts_of entries
counts_stay entries head effects isnt_live = let messages = messages_stay entries head effects isnt_live in let told = effects_stay entries head effects isnt_live in λ i. counts_by (messages i) (told i)

-- a count that ended, with more
told_pushed : (m n all : ℕ) → all ≡ m + n → told_count all ≡ told_count (told_count m + n)
told_pushed m n all is = ap told_count is ∙ sym (told_sum m n)

pub counts_after_message : (entries : List EntryValue) (head : HeadValue) (effects : List EffectValue) → state_of entries ≡ live → counts_of (entries ++ message head effects ∷ []) ≡ sum_of (counts_of entries) (message_counts head.size effects)
counts_after_message entries head effects is_live =
    let one : List EntryValue = message head effects ∷ [] in
    let all = messages_after_message entries head effects is_live in
    let told = effects_after_message entries head effects is_live in
    let messages = told_pushed (length (session_messages entries)) 1 _ (ap length all ∙ length-append (session_messages entries) one) in
    let bytes = told_pushed (sum_by length_of (session_messages entries)) head.size _ (ap (sum_by length_of) all ∙ sum_pushed length_of (session_messages entries) (message head effects)) in
    let orphans = told_pushed (count_by is_orphan (session_effects entries)) (count_by is_orphan effects) _ (ap (count_by is_orphan) told ∙ orphans_append (session_effects entries) effects) in
    let unheard = told_pushed (sum_by parts_in (session_effects entries)) (sum_by parts_in effects) _ (ap (sum_by parts_in) told ∙ unread_append (session_effects entries) effects) in
    let mirrored = told_pushed (count_by is_mirrored (session_effects entries)) (count_by is_mirrored effects) _ (ap (count_by is_mirrored) told ∙ mirrored_append (session_effects entries) effects) in
    let passed = told_pushed (count_by is_passed (session_effects entries)) (count_by is_passed effects) _ (ap (count_by is_passed) told ∙ passed_append (session_effects entries) effects) in
    λ i. record { messages = messages i; bytes = bytes i; orphans = orphans i; unread = unheard i; mirrored = mirrored i; passed = passed i }
