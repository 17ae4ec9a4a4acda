use Rattle.std.proofs.Common.{ℕ, ◌^◌, arith, ap}
use Rattle.std.proofs.lemmas.List.Sums.{sum_by_more_le, sum_by-le}
use Rattle.router_tables.specs.Tables.{TablesValue}
use Rattle.station_core.proofs.machine.revision_of.Goals as goal

pub overflow_add-sum : goal.overflow_add-sum
overflow_add-sum c =
    let all = c.args.shown.now in
    let x = c.lane-item.result in
    let more = sum_by_more_le (λ (z : TablesValue × ℕ). z.1) all c.loop-lane.lane-index x c.loop-lane-test.true in
    let most = sum_by-le (λ (z : TablesValue × ℕ). z.1) (2 ^ 57) all c.requires.counts in
    omega (arith, c.loop-lane.invariant, more, most, c.requires.lanes, ap (λ (z : TablesValue × ℕ). z.1) c.lane.view_is, ap (λ (z : TablesValue × ℕ). z.1) c.lane-item.is)
