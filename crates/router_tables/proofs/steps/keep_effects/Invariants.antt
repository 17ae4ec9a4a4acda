use Rattle.std.proofs.Common.{◌≡◌, List, ◌++◌, take}
use Rattle.std.specs.Prelude.{filter_map}
use Rattle.bmp_specs.specs.Steps.{step_of}
use Rattle.bmp_specs.specs.Values.{StepValue}
use Rattle.recent_ring.specs.Recent.{recent}
use Rattle.rib_model.specs.Effects.{effect_values}
use Rattle.router_tables.specs.Tables.{steps_told}
use Rattle.router_tables.proofs.steps.keep_effects.Given as goal

abbrev pub invariant-loop-effect : goal.invariant-loop-effect
invariant-loop-effect l = (all : List StepValue) → steps_told l.fn.steps ≡ recent all → steps_told l.steps ≡ recent (all ++ filter_map step_of (effect_values (take l.effect-index l.effects)))
