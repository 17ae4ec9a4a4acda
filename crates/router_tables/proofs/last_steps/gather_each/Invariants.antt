use Rattle.std.proofs.Common.{◌≡◌, ◌++◌, map, take}
use Rattle.std.specs.Arc.{arc_value}
use Rattle.bmp_specs.specs.Values.{announce_step}
use Rattle.rib_model.specs.Steps.{step_value}
use Rattle.router_tables.proofs.last_steps.gather_each.Given as goal

abbrev pub invariant-loop-nlri : goal.invariant-loop-nlri
invariant-loop-nlri l = map step_value l.steps.items ≡ map step_value l.fn.steps.items ++ map (λ n. announce_step l.key l.view n (arc_value l.route)) (take l.nlri-index l.nlris)
