use Rattle.std.proofs.Common.{ℕ, arith, ap}
use Rattle.std.proofs.lemmas.List.Sums.{sum_by_more_le}
use Rattle.cut_publisher.proofs.cut.total_of.Goals as goal

pub overflow_add-sum : goal.overflow_add-sum
overflow_add-sum g c =
    let S = g.row.S.Denot in
    let more = sum_by_more_le (λ (z : S × ℕ). z.1) c.args.lanes.now c.loop-lane.lane-index c.lane-item.result c.loop-lane-test.true in
    omega (arith, c.loop-lane.invariant, more, c.requires, ap (λ (z : S × ℕ). z.1) c.lane.view_is, ap (λ (z : S × ℕ). z.1) c.lane-item.is)
