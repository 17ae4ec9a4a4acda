use Rattle.std.proofs.Common.{◌≡◌, ◌++◌, map, take}
use Rattle.bmp_specs.specs.Values.{withdraw_step}
use Rattle.rib_model.specs.Steps.{step_value}
use Rattle.router_tables.proofs.last_steps.gather_withdrawn.Given as goal

abbrev pub invariant-loop-nlri : goal.invariant-loop-nlri
invariant-loop-nlri l = map step_value l.steps.items ≡ map step_value l.fn.steps.items ++ map (λ n. withdraw_step l.key l.view n) (take l.nlri-index l.nlris)
