use Rattle.std.proofs.Common.{arith}
use Rattle.std.specs.Arc.{arc_value}
use Rattle.route_runs.proofs.CountingRuns.{count_step}
use Rattle.route_runs.proofs.totals.total.Goals as goal

pub overflow_sub-count : goal.overflow_sub-count
overflow_sub-count g c =
    let step = count_step g.K.Ord.cmp g.met.K.Ord.total g.met.K.RunKey.exact arc_value c.args.runs.now c.loop-at.at c.index-runs-at.result c.index-runs-at-in-loop-at.result c.deref.result.now c.deref-in-loop-at.result.now
    c.loop-at.count c.live_rows-live.result c.known-known.result c.loop-at-test.true c.index-runs-at.is c.index-runs-at-in-loop-at.is c.deref.ensures c.deref-in-loop-at.ensures c.live_rows-live.ensures.ordered
    c.loop-at.invariant.sum c.live_rows-live.ensures.count c.known-known.ensures in
    omega (arith, step)

pub loop-at-preserved : goal.loop-at-preserved
loop-at-preserved g c =
    let step = count_step g.K.Ord.cmp g.met.K.Ord.total g.met.K.RunKey.exact arc_value c.args.runs.now c.loop-at.at c.index-runs-at.result c.index-runs-at-in-loop-at.result c.deref.result.now c.deref-in-loop-at.result.now
    c.loop-at.count c.live_rows-live.result c.known-known.result c.loop-at-test.true c.index-runs-at.is c.index-runs-at-in-loop-at.is c.deref.ensures c.deref-in-loop-at.ensures c.live_rows-live.ensures.ordered
    c.loop-at.invariant.sum c.live_rows-live.ensures.count c.known-known.ensures in
    let few = c.loop-at.invariant.few in
    record {
      within = omega (arith, c.loop-at-test.true);
      few = omega (arith, few);
      sum = omega (arith, step);
    }
