use Rattle.std.proofs.Common.{List, ◌++◌, take, arith, ap, ◌∙◌}
use Rattle.std.specs.Prelude.{filter_map}
use Rattle.bmp_specs.specs.Steps.{step_of}
use Rattle.bmp_specs.specs.Values.{StepValue}
use Rattle.recent_ring.specs.Recent.{recent}
use Rattle.rib_model.specs.Effects.{effect_values}
use Rattle.router_tables.proofs.StepSteps.{more_items}
use Rattle.router_tables.proofs.steps.keep_effects.Goals as goal

pub loop-effect-preserved : goal.loop-effect-preserved
loop-effect-preserved c all was =
    let items = c.args.effects.now in
    let i = c.loop-effect.effect-index in
    c.in_ok-keep_effect.ensures (all ++ filter_map step_of (effect_values (take i items))) (c.loop-effect.invariant all was)
    ∙ ap (λ (l : List StepValue). recent l) (more_items all items i c.effect-item.result (omega arith) c.effect-item.is)
