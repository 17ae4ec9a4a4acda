-- The lines that tell of the changes of a prefix, in a form of ours.
use Rattle.std.specs.Prelude.{ℕ, ◌-◌, List, [], ◌∷◌, nat_lt, if◌then◌else◌, codes}
use Rattle.bmp_specs.specs.Changes.{ChangeValue}
use Rattle.bmp_specs.specs.Lines.{line, number_line, cause_fields}
use Rattle.bmp_specs.specs.NumberText.{number_text}
use Rattle.bmp_specs.specs.PeerText.{key_text, view_text}
use Rattle.bmp_specs.specs.PrefixText.{prefix_text}
use Rattle.bmp_specs.specs.RouteLine.{id_fields, route_fields}
use Rattle.bmp_specs.specs.Values.{StepValue, opened_step, closed_step, up_step, down_step, announce_step, withdraw_step}

-- how many steps a lane made: `steps N T`
abbrev pub steps_line : ℕ → ℕ → List ℕ
steps_line lane total = line (codes "steps") (number_text lane ∷ number_text total ∷ [])

-- how many steps are no longer kept of those that are asked for: `missed M`
abbrev pub missed_line : ℕ → List ℕ
missed_line steps = number_line (codes "missed") steps

-- that line, where the step of this number is asked for and an older one than the oldest kept
abbrev pub missed_lines : ℕ → ℕ → List (List ℕ)
missed_lines from oldest = if nat_lt from oldest then missed_line (oldest - from) ∷ [] else []

-- what a step did
abbrev pub step_fields : StepValue → List (List ℕ)
step_fields opened_step = codes "opened" ∷ []
step_fields (closed_step cause) = codes "closed" ∷ cause_fields cause
step_fields (up_step key) = codes "up" ∷ key_text key ∷ []
step_fields (down_step key) = codes "down" ∷ key_text key ∷ []
step_fields (announce_step key view nlri route) = codes "announce" ∷ route_fields (record { row_key = record { key = key; view = view; nlri = nlri }; route = route })
step_fields (withdraw_step key view nlri) = codes "withdraw" ∷ key_text key ∷ view_text view ∷ prefix_text nlri.prefix ∷ id_fields nlri.id

-- a step of a lane, and its number: `change N J ..`
abbrev pub change_line : ℕ → ChangeValue → List ℕ
change_line lane change = line (codes "change") (number_text lane ∷ number_text change.number ∷ step_fields change.step)
