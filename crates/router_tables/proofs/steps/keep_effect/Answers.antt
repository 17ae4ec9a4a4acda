use Rattle.std.proofs.Common.{List, ◌++◌, ap, ◌∙◌}
use Rattle.std.proofs.lemmas.Result.{on_ok_weaker}
use Rattle.bmp_specs.specs.Values.{StepValue}
use Rattle.recent_ring.specs.Recent.{recent}
use Rattle.router_tables.proofs.StepSteps.{kept, steps_announced, steps_withdrawn}
use Rattle.router_tables.proofs.steps.keep_effect.Goals as goal

pub returns-in-Up : goal.returns-in-Up
returns-in-Up c = rw c.in-Up.is (λ all was. kept c.args.steps.now c.push.new.self _ c.push.ensures.items c.push.ensures.total all was)

pub returns-in-Down : goal.returns-in-Down
returns-in-Down c = rw c.in-Down.is (λ all was. kept c.args.steps.now c.push-in-Down.new.self _ c.push-in-Down.ensures.items c.push-in-Down.ensures.total all was)

pub returns-in-Announce : goal.returns-in-Announce
returns-in-Announce c = rw (c.in-Announce.is, ← c.as_slice.ensures) (on_ok_weaker c.keep_each.result
    (λ keeps all was. keeps all was ∙ ap (λ (l : List StepValue). recent (all ++ l)) (steps_announced _ _ _ _)) c.keep_each.ensures)

pub returns-in-Withdraw : goal.returns-in-Withdraw
returns-in-Withdraw c = rw (c.in-Withdraw.is, ← c.as_slice-in-Withdraw.ensures)
    (λ all was. c.keep_withdrawn.ensures all was ∙ ap (λ (l : List StepValue). recent (all ++ l)) (steps_withdrawn _ _ _))
