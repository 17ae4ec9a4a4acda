use Rattle.std.proofs.Common.{◌≡◌, List, ◌++◌, map, take}
use Rattle.std.specs.Arc.{arc_value}
use Rattle.bmp_specs.specs.Values.{StepValue, announce_step}
use Rattle.recent_ring.specs.Recent.{recent}
use Rattle.router_tables.specs.Tables.{steps_told}
use Rattle.router_tables.proofs.steps.keep_each.Given as goal

abbrev pub invariant-loop-nlri : goal.invariant-loop-nlri
invariant-loop-nlri l = (all : List StepValue) → steps_told l.fn.steps ≡ recent all → steps_told l.steps ≡ recent (all ++ map (λ n. announce_step l.key l.view n (arc_value l.route)) (take l.nlri-index l.nlris))
