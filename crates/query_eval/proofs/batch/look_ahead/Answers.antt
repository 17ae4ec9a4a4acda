use Rattle.std.proofs.Common.{List, add-one, arith, length-set, subst, take_all, ◌∙◌}
use Rattle.bmp_specs.specs.Values.{AttrsValue}
use Rattle.query_eval.specs.RowRuns.{AreFound}
use Rattle.query_eval.proofs.Batches.{SetRef, found_next}
use Rattle.query_eval.proofs.batch.look_ahead.Goals as goal

pub loop-at-preserved : goal.loop-at-preserved
loop-at-preserved g c =
    let i = c.loop-at.invariant in
    let Finds = g.L.TellsTable.finds c.args.lines.now in
    rw add-one (record {
      wide = length-set c.loop-at.found c.loop-at.at _ ∙ i.wide;
      are = found_next Finds c.args.routes.now c.loop-at.found c.loop-at.at c.index-routes-at.result c.index-routes-at.result c.look.result i.are (omega arith) (omega (arith, i.wide, c.requires)) c.index-routes-at.is (subst (λ (a : AttrsValue). Finds a c.look.result) c.deref.ensures c.look.ensures);
    })

pub returns : goal.returns
returns g c = subst (λ (rs : List SetRef). AreFound (g.L.TellsTable.finds c.args.lines.now) rs c.loop-at.found) (take_all c.loop-at.at c.args.routes.now (omega arith)) c.loop-at.invariant.are
