use Rattle.std.proofs.Common.{map, subst, sym, take, add-one}
use Rattle.std.specs.Arc.{arc_value}
use Rattle.std.specs.List.{AllByRecursion}
use Rattle.route_runs.specs.Sets.{RowPasses}
use Rattle.route_runs.proofs.Setwise.{all_next}
use Rattle.route_runs.proofs.sets.runs_pass.Goals as goal

pub loop-run-preserved : goal.loop-run-preserved
loop-run-preserved g c =
    let P = RowPasses g.K.TableKey.is_marked c.args.ids g.T.SetTest.passes in
    let i = c.loop-run.run-index in
    let item = c.run-item.result in
    subst (λ n. AllByRecursion (λ rows. AllByRecursion P rows) (map arc_value (take n c.args.runs.now))) (sym (add-one i))
    (all_next arc_value (λ rows. AllByRecursion P rows) c.args.runs.now i item item c.loop-run-test.true c.run-item.is c.loop-run.invariant
    (subst (AllByRecursion P) c.deref.ensures (c.run_passes.ensures c.if-not-run_passes.false)))
