use Rattle.std.proofs.Common.{◌∙◌, map, ap, sym}
use Rattle.std.specs.Arc.{arc_value}
use Rattle.route_runs.specs.Places.{shown}
use Rattle.route_runs.proofs.SiftingRuns.{rows_fewer, rows_on}
use Rattle.route_runs.proofs.spots.next_by_rows.Goals as goal

pub loop-found-smaller : goal.loop-found-smaller
loop-found-smaller g c =
    rows_fewer g.K.Ord.cmp g.met.K.Ord.total g.met.K.RunKey.exact (g.T.RouteTest.passes c.args.test.now) (map arc_value c.args.runs.now) c.args.place c.loop-found.at c.loop-found.invariant (shown c.in-Some.found) c.in-Some.ensures

pub loop-found-preserved : goal.loop-found-preserved
loop-found-preserved g c =
    rows_on g.K.Ord.cmp g.met.K.Ord.total g.met.K.RunKey.exact (g.T.RouteTest.passes c.args.test.now) (map arc_value c.args.runs.now) c.args.place c.loop-found.at c.loop-found.invariant (shown c.in-Some.found) c.in-Some.ensures
    (ap (g.T.RouteTest.passes c.args.test.now) (sym c.deref.ensures) ∙ sym c.test.ensures ∙ c.if-test.false)
