use Rattle.std.proofs.Common.{◌<◌, None, arith}
use Rattle.bmp_specs.specs.QueryReply.{most_told}
use Rattle.route_watch.proofs.Kept.{first_of_steps, none_told}
use Rattle.route_watch.proofs.any.poll_any.Goals as goal

pub returns-then-total-clause-kept : goal.returns-then-total-clause-kept
returns-then-total-clause-kept c = λ less. absurd (omega (arith, less, c.if-total.true, c.total-total.ensures.total))

pub returns-then-total-clause-changes : goal.returns-then-total-clause-changes
returns-then-total-clause-changes c = λ steps all. none_told c.args.recent.now c.args.from None steps all (omega (arith, c.if-total.true, c.total-total.ensures.total))

pub returns-clause-kept : goal.returns-clause-kept
returns-clause-kept c = λ less. c.next_kept.ensures

pub returns-clause-most : goal.returns-clause-most
returns-clause-most c = λ most. absurd (omega (arith, most, c.if-total.false, c.total-total.ensures.total))

pub returns-clause-changes : goal.returns-clause-changes
returns-clause-changes c = λ steps all.
    let less : c.args.recent.now.total < most_told = omega (arith, c.if-total.false, c.total-total.ensures.total) in
    first_of_steps c.args.recent.now c.args.from None steps all less _ c.next_kept.ensures
