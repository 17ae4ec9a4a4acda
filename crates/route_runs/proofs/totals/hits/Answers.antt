use Rattle.std.proofs.Common.{sym}
use Rattle.std.specs.Arc.{arc_value}
use Rattle.route_runs.proofs.CountingRuns.{none_known}
use Rattle.route_runs.proofs.totals.hits.Goals as goal

pub returns-then-runs-eq0 : goal.returns-then-runs-eq0
returns-then-runs-eq0 g c = sym (none_known g.K.Ord.cmp arc_value c.args.runs.now c.args.keys.now c.if-runs-eq0.true)
