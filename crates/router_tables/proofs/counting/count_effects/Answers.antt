use Rattle.std.proofs.Common.{List, ◌++◌, take, arith, ap, ◌∙◌}
use Rattle.bmp_specs.specs.Sums.{sum_of, message_counts}
use Rattle.bmp_specs.specs.Values.{EffectValue}
use Rattle.rib_model.specs.Effects.{effect_values}
use Rattle.router_tables.proofs.CountSteps.{more_items}
use Rattle.router_tables.proofs.counting.count_effects.Goals as goal

pub loop-effect-preserved : goal.loop-effect-preserved
loop-effect-preserved c before len earlier was =
    let items = c.args.effects.now in
    c.count_effect.ensures before len (earlier ++ effect_values (take c.loop-effect.effect-index items)) (c.loop-effect.invariant before len earlier was)
    ∙ ap (λ (es : List EffectValue). sum_of before (message_counts len es)) (more_items earlier items c.loop-effect.effect-index c.effect-item.result (omega arith) c.effect-item.is)
