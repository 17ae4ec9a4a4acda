-- The counts of a session with one more message.
use Rattle.std.proofs.Common.{◌≡◌, List, [], ◌∷◌, ◌++◌, sym, ap, ◌∙◌}
use Rattle.bmp_specs.specs.Counts.{CountsValue, counts_of}
use Rattle.bmp_specs.specs.Session.{live, state_of}
use Rattle.bmp_specs.specs.Sums.{sum_of, message_counts}
use Rattle.bmp_specs.specs.Values.{EffectValue, EntryValue, HeadValue, message}
use Rattle.bmp_specs.proofs.LaneLaws.{counts_after_message}

-- a sum with the counts of one more message
pub counts_stand : (new old more : CountsValue) → new ≡ sum_of old more → (entries : List EntryValue) (head : HeadValue) (effects : List EffectValue) → state_of entries ≡ live → old ≡ counts_of entries → more ≡ message_counts head.size effects
    → new ≡ counts_of (entries ++ message head effects ∷ [])
counts_stand new old more sum entries head effects is_live is_old is_more =
    sum ∙ ap (λ (c : CountsValue). sum_of c more) is_old ∙ ap (λ (c : CountsValue). sum_of (counts_of entries) c) is_more ∙ sym (counts_after_message entries head effects is_live)
