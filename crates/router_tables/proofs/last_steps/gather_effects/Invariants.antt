use Rattle.std.proofs.Common.{◌≡◌, ◌++◌, ◌-◌, drop, length, map, take}
use Rattle.std.specs.Prelude.{filter_map}
use Rattle.bmp_specs.specs.Steps.{step_of}
use Rattle.rib_model.specs.Effects.{effect_values}
use Rattle.rib_model.specs.Steps.{step_value}
use Rattle.router_tables.proofs.last_steps.gather_effects.Given as goal

abbrev pub invariant-loop-effect : goal.invariant-loop-effect
invariant-loop-effect l = record {
  left : l.left ≡ l.passed - length (filter_map step_of (effect_values (take l.effect-index l.effects)));
  steps : map step_value l.steps.items ≡ map step_value l.fn.steps.items ++ drop l.passed (filter_map step_of (effect_values (take l.effect-index l.effects)));
}
