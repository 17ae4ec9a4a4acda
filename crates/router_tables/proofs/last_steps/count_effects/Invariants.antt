use Rattle.std.proofs.Common.{◌≡◌, ◌-◌, ◌^◌, length, min, take}
use Rattle.std.specs.Prelude.{filter_map}
use Rattle.bmp_specs.specs.Steps.{step_of}
use Rattle.rib_model.specs.Effects.{effect_values}
use Rattle.router_tables.proofs.last_steps.count_effects.Given as goal

abbrev pub invariant-loop-effect : goal.invariant-loop-effect
invariant-loop-effect l = l.count ≡ min (length (filter_map step_of (effect_values (take l.effect-index l.effects)))) (2 ^ 64 - 1)
