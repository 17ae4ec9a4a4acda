-- Steps as values, without the place of their parts in memory.
use Rattle.std.specs.Arc.{arc_value}
use Rattle.bmp_specs.specs.Values.{StepValue, opened_step, closed_step, up_step, down_step, announce_step, withdraw_step}
use Rattle.rib_model.specs.declared.step.Step.{Step}
use Rattle.rib_model.specs.declared.step.Step.TheVariants.{Opened, Closed, Up, Down, Announce, Withdraw}

abbrev pub step_value : Step → StepValue
step_value Opened = opened_step
step_value (Closed cause) = closed_step cause
step_value (Up key) = up_step key
step_value (Down key) = down_step key
step_value (Announce key view nlri route) = announce_step key view nlri (arc_value route)
step_value (Withdraw key view nlri) = withdraw_step key view nlri
