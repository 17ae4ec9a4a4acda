use Rattle.std.proofs.Common.{refl, sym, ap}
use Rattle.station_top.specs.Station.{drilled, served}
use Rattle.station_top.proofs.HandedBack.{as_station, nobody_served}
use Rattle.station_top.proofs.Concluding.{ends_write, ends_yard}
use Rattle.station_top.proofs.top.station.Goals as goal

pub returns-in-Ok-clause-answers : goal.returns-in-Ok-clause-answers
returns-in-Ok-clause-answers g c = as_station _ _ _ _ _ _ _ _ _ c.in-Ok.ensures.answers

pub returns-in-Err-Serve-clause-answers : goal.returns-in-Err-Serve-clause-answers
returns-in-Err-Serve-clause-answers g c =
    let is = rw c.in-Err-Serve.field-0-is at c.in-Err-Serve.ensures.waits in
    let same = c.in-Err-Serve.ensures.untouched in
    served c.in-Err-Serve.serve_words c.in-Err-Serve.lenient c.serve_by.result is (rw same.0 at (rw same.1 at c.serve_by.ensures.serves)) c.status_served_by.ensures

pub returns-in-Err-Serve-clause-out : goal.returns-in-Err-Serve-clause-out
returns-in-Err-Serve-clause-out g c = ends_write _ _ c.serve_by.result c.status_served_by.result c.status_served_by.ensures (rw c.in-Err-Serve.ensures.untouched.1 at c.serve_by.ensures.out)

pub returns-in-Err-Serve-clause-yard : goal.returns-in-Err-Serve-clause-yard
returns-in-Err-Serve-clause-yard g c = ends_yard _ _ c.serve_by.result c.status_served_by.result c.status_served_by.ensures (rw c.in-Err-Serve.ensures.untouched.0 at c.serve_by.ensures.yard)

pub returns-in-Err-Serve-clause-others : goal.returns-in-Err-Serve-clause-others
returns-in-Err-Serve-clause-others g c none = absurd (none _ (rw c.in-Err-Serve.field-0-is at c.in-Err-Serve.ensures.waits) tt)

pub returns-in-Err-Drill-clause-answers : goal.returns-in-Err-Drill-clause-answers
returns-in-Err-Drill-clause-answers g c =
    let is = rw c.in-Err-Drill.field-0-is at c.in-Err-Drill.ensures.waits in
    let same = c.in-Err-Drill.ensures.untouched in
    drilled c.in-Err-Drill.drill_words is (ap (λ y. (g.Y.Yard.seen y).told) same.0) (ap (λ y. (g.Y.Yard.seen y).calls) same.0) (rw same.1 at c.run_drill.ensures.concludes)

pub returns-in-Err-Drill-clause-out : goal.returns-in-Err-Drill-clause-out
returns-in-Err-Drill-clause-out g c = rw c.in-Err-Drill.ensures.untouched.1 at c.run_drill.ensures.out

pub returns-in-Err-Drill-clause-yard : goal.returns-in-Err-Drill-clause-yard
returns-in-Err-Drill-clause-yard g c = record { rose = λ is. absurd (c.run_drill.ensures.yard is); calm = λ _. ap (λ y. g.Y.Yard.faults y) c.in-Err-Drill.ensures.untouched.0 }

pub returns-in-Err-Drill-clause-others : goal.returns-in-Err-Drill-clause-others
returns-in-Err-Drill-clause-others g c none = nobody_served _ _ (ap (λ y. g.Y.Yard.seen y) c.in-Err-Drill.ensures.untouched.0)
