use Rattle.std.proofs.Common.{◌≡◌, ◌++◌, map, take}
use Rattle.bmp_specs.specs.Values.{statistic}
use Rattle.rib_model.specs.Effects.{effect_values}
use Rattle.bmp_message.proofs.effects.add_statistics.Given as goal

abbrev pub invariant-loop-stat : goal.invariant-loop-stat
invariant-loop-stat l = effect_values l.effects ≡ effect_values l.initial.effects ++ map (λ s. statistic l.key s) (take l.stat-index l.stats)
