use Rattle.std.proofs.Common.{◌∙◌, ◌++◌, ◌∷◌, [], sym, ap, List, take}
use Rattle.std.proofs.lemmas.List.{take_more}
use Rattle.station_run.specs.Pairing.{after_one, ends, lanes_of, outcome_of, starved}
use Rattle.station_run.specs.declared.outcome.Outcome.{Outcome}
use Rattle.station_run.specs.declared.tasks.Task.{Task}
use Rattle.station_run.proofs.Taking.{outcome_more}
use Rattle.station_run.proofs.pairing.outcome_after.Goals as goal

pub loop-task-preserved : goal.loop-task-preserved
loop-task-preserved g c =
    let i = c.loop-task.task-index in
    let all = c.args.tasks.now in
    c.after-outcome.ensures ∙ ap (λ (o : Outcome). after_one (starved c.task-item.result) o) c.loop-task.invariant
    ∙ sym (outcome_more (take i all) c.task-item.result)
    ∙ ap (λ (t : Task g.row.B.Denot g.row.P.Denot g.row.K.Denot). outcome_of (ends (lanes_of (take i all ++ t ∷ [])))) c.task-item.is
    ∙ ap (λ (l : List (Task g.row.B.Denot g.row.P.Denot g.row.K.Denot)). outcome_of (ends (lanes_of l))) (sym (take_more all i c.task-item.result c.loop-task-test.true))
