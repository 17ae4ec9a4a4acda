use Rattle.std.proofs.Common.{◌-◌, ◌^◌, ◌+◌, ap, arith, min, take}
use Rattle.std.specs.Prelude.{filter_map}
use Rattle.bmp_specs.specs.Steps.{step_of}
use Rattle.rib_model.specs.Effects.{item_values, effect_values}
use Rattle.router_tables.proofs.GatheredSteps.{counted_more, effects_more}
use Rattle.router_tables.proofs.last_steps.count_effects.Goals as goal

pub loop-effect-preserved : goal.loop-effect-preserved
loop-effect-preserved c =
    let items = c.args.effects.now in
    let i = c.loop-effect.effect-index in
    counted_more (filter_map step_of (effect_values (take i items))) (filter_map step_of (item_values c.effect-item.result)) (filter_map step_of (effect_values (take (i + 1) items)))
    c.loop-effect.count c.count_effect.result c.saturating_add-count.result (effects_more items i c.effect-item.result (omega arith) c.effect-item.is)
    c.loop-effect.invariant (ap (λ n. min n (2 ^ 64 - 1)) c.count_effect.ensures) c.saturating_add-count.ensures
