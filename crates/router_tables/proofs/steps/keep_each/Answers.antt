use Rattle.std.proofs.Common.{List, [], ◌∷◌, ◌++◌, map, take, arith, ap, ◌∙◌}
use Rattle.std.specs.Arc.{arc_value}
use Rattle.bmp_specs.specs.Values.{NlriValue, AttrsValue, StepValue, announce_step}
use Rattle.recent_ring.specs.Recent.{recent}
use Rattle.router_tables.proofs.StepSteps.{kept, more_steps}
use Rattle.router_tables.proofs.steps.keep_each.Goals as goal

pub loop-nlri-preserved : goal.loop-nlri-preserved
loop-nlri-preserved c all was =
    let f = λ (n : NlriValue). announce_step c.args.key.now c.args.view n (arc_value c.args.route.now) in
    let ns = c.args.nlris.now in
    let i = c.loop-nlri.nlri-index in
    kept c.loop-nlri.steps c.push.new.self _ c.push.ensures.items c.push.ensures.total (all ++ map f (take i ns)) (c.loop-nlri.invariant all was)
    ∙ ap (λ (a : AttrsValue). recent ((all ++ map f (take i ns)) ++ announce_step c.args.key.now c.args.view c.nlri-item.result a ∷ [])) c.in_ok-route.ensures
    ∙ ap (λ (l : List StepValue). recent l) (more_steps f all ns i c.nlri-item.result (omega arith) c.nlri-item.is)
