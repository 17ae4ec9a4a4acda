use Rattle.std.proofs.Common.{List, [], ◌∷◌, ◌++◌, ap, ◌∙◌}
use Rattle.bmp_specs.specs.Steps.{steps_of}
use Rattle.bmp_specs.specs.Values.{ClosingValue, StepValue, closed, closed_step}
use Rattle.recent_ring.specs.Recent.{recent}
use Rattle.router_tables.proofs.StepSteps.{kept, steps_more}
use Rattle.router_tables.proofs.steps.keep_steps.Goals as goal

pub returns-in-Opened : goal.returns-in-Opened
returns-in-Opened c = rw c.in-Opened.is (λ entries was. kept c.args.steps.now c.push.new.self _ c.push.ensures.items c.push.ensures.total (steps_of entries) was
    ∙ ap (λ (l : List StepValue). recent l) (steps_more entries _))

pub returns-in-Closed : goal.returns-in-Closed
returns-in-Closed c = rw c.in-Closed.is (λ entries was. kept c.args.steps.now c.push-in-Closed.new.self _ c.push-in-Closed.ensures.items c.push-in-Closed.ensures.total (steps_of entries) was
    ∙ ap (λ (k : ClosingValue). recent (steps_of entries ++ closed_step k.cause ∷ [])) c.closing.view_is
    ∙ ap (λ (l : List StepValue). recent l) (steps_more entries (closed c.in-Closed.closing)))
