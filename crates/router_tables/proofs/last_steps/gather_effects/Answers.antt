use Rattle.std.proofs.Common.{◌-◌, ◌++◌, ◌∙◌, ap, arith, drop, length, map, take}
use Rattle.std.specs.Prelude.{filter_map}
use Rattle.bmp_specs.specs.Steps.{step_of}
use Rattle.rib_model.specs.Effects.{item_values, effect_values}
use Rattle.rib_model.specs.Steps.{step_value}
use Rattle.router_tables.proofs.GatheredSteps.{effects_more, gathered_more, left_more}
use Rattle.router_tables.proofs.last_steps.gather_effects.Goals as goal

pub loop-effect-preserved : goal.loop-effect-preserved
loop-effect-preserved c =
    let items = c.args.effects.now in
    let i = c.loop-effect.effect-index in
    let all = filter_map step_of (effect_values (take i items)) in
    let next = filter_map step_of (item_values c.effect-item.result) in
    let old = map step_value c.args.steps.now.items in
    let more = effects_more items i c.effect-item.result (omega arith) c.effect-item.is in
    record {
      left = left_more all next c.args.passed c.loop-effect.left c.in_ok-left.left c.loop-effect.invariant.left c.in_ok-left.ensures.left ∙ ap (λ l. c.args.passed - length l) more;
      steps = gathered_more old (map step_value c.loop-effect.steps.items) (map step_value c.gather_effect.new.steps.items) all next c.args.passed c.loop-effect.left
          c.loop-effect.invariant.steps c.loop-effect.invariant.left c.in_ok-left.ensures.steps ∙ ap (λ l. old ++ drop c.args.passed l) more;
    }
