-- The steps of a lane, a notion of ours: its openings and closings, the peers that come up and go down, and the routes that
-- are announced and withdrawn, in the order of its entries.
use Rattle.std.specs.Prelude.{List, [], ◌∷◌, Option, Some, None, filter_map, flat_map}
use Rattle.bmp_specs.specs.Values.{EffectValue, EntryValue, StepValue, up, down, announce, withdraw, opened, message, closed, opened_step, closed_step, up_step, down_step, announce_step, withdraw_step}

-- the step of an effect, where it is one
abbrev pub step_of : EffectValue → Option StepValue
step_of (up key info) = Some (up_step key)
step_of (down key info) = Some (down_step key)
step_of (announce key view nlri route) = Some (announce_step key view nlri route)
step_of (withdraw key view nlri) = Some (withdraw_step key view nlri)
step_of _ = None

-- the steps of an entry
abbrev pub steps_in : EntryValue → List StepValue
steps_in (opened came) = opened_step ∷ []
steps_in (message head effects) = filter_map step_of effects
steps_in (closed closing) = closed_step closing.cause ∷ []

-- the steps of a list of entries; a step's number is its place here
abbrev pub steps_of : List EntryValue → List StepValue
steps_of entries = flat_map steps_in entries
