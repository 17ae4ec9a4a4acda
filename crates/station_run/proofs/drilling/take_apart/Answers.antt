use Rattle.std.proofs.Common.{◌<◌, ◌∙◌, ◌++◌, ◌∷◌, [], List, length, ap, refl, arith}
use Rattle.std.proofs.lemmas.List.{length_push}
use Rattle.station_run.specs.declared.drill_tasks.DrillTask.{DrillTask}
use Rattle.station_run.specs.declared.drill_tasks.DrillTask.TheVariants.{Ask}
use Rattle.station_run.proofs.Drilled.{apart_ask, apart_done, apart_lane, apart_none}
use Rattle.station_run.proofs.drilling.take_apart.Goals as goal

pub loop-task-init : goal.loop-task-init
loop-task-init c = λ seed messages b lanes works. apart_none seed messages b lanes _ _ _ c.requires.0 c.requires.1 works

pub loop-task-smaller-else-not-kept : goal.loop-task-smaller-else-not-kept
loop-task-smaller-else-not-kept c =
    let less : length c.pop.new.self.items < length c.loop-task.tasks.items = omega (arith, ap (λ (l : List DrillTask). length l) c.in-Some.ensures.items, length_push c.pop.new.self.items c.in-Some.task) in
    less

pub loop-task-preserved-else-not-kept : goal.loop-task-preserved-else-not-kept
loop-task-preserved-else-not-kept c = λ seed messages b lanes works.
    let kept = c.keep_feed-kept.ensures c.if-not-kept.false in
    apart_lane seed messages b lanes c.loop-task.tasks.items c.pop.new.self.items c.loop-task.feeds _ c.loop-task.asks c.in-Lane.lane (c.in-Some.ensures.items ∙ ap (λ (t : DrillTask). c.pop.new.self.items ++ t ∷ []) c.in-Lane.is) kept.1 kept.0
    (c.loop-task.invariant seed messages b lanes works)

pub loop-task-smaller : goal.loop-task-smaller
loop-task-smaller c =
    let less : length c.pop.new.self.items < length c.loop-task.tasks.items = omega (arith, ap (λ (l : List DrillTask). length l) c.in-Some.ensures.items, length_push c.pop.new.self.items c.in-Some.task) in
    less

pub loop-task-preserved : goal.loop-task-preserved
loop-task-preserved c = λ seed messages b lanes works.
    let kept = c.keep_ask-held.ensures c.if-not-held.false in
    apart_ask seed messages b lanes c.loop-task.tasks.items c.pop.new.self.items c.loop-task.feeds c.loop-task.asks _ (Ask c.in-Ask.work) c.in-Ask.work.pass (c.in-Some.ensures.items ∙ ap (λ (t : DrillTask). c.pop.new.self.items ++ t ∷ []) c.in-Ask.is) refl (λ e. e) kept.1
    (c.loop-task.invariant seed messages b lanes works)

pub returns : goal.returns
returns c = λ seed messages b lanes works. apart_done seed messages b lanes c.loop-task.tasks.items _ _ (omega (arith, c.in_default.ensures.cases.0, c.loop-task.tasks.ok)) (c.loop-task.invariant seed messages b lanes works)
