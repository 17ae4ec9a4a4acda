-- The words of `drill`: three numbers.
use Rattle.std.specs.Prelude.{◌≡◌, ℕ, ◌≤◌, List, [], ◌∷◌}
use Rattle.bmp_specs.specs.NumberText.{IsNumberText}
use Rattle.station_words.specs.declared.drill_words.DrillWords.{DrillWords}

-- There may be so many lanes, and so many messages in the stream of each.
pub record MayDrill (drill : DrillWords) : Type 0 where
  pub lanes : (1 ≤ drill.lanes) × (drill.lanes ≤ 16)
  pub messages : (1 ≤ drill.messages) × (drill.messages ≤ 100000)

-- The words are the seed, the number of lanes and the number of messages.
pub record IsDrill (drill : DrillWords) (words : List (List ℕ)) : Type 0 where
  pub seed : List ℕ
  pub lanes : List ℕ
  pub messages : List ℕ
  pub spelled : words ≡ seed ∷ lanes ∷ messages ∷ []
  pub is_seed : IsNumberText seed drill.seed
  pub is_lanes : IsNumberText lanes drill.lanes
  pub is_messages : IsNumberText messages drill.messages
  pub may_drill : MayDrill drill
