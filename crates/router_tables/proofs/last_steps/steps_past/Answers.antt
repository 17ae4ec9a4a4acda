use Rattle.std.proofs.Common.{arith}
use Rattle.router_tables.proofs.LastToTell.{past_told}
use Rattle.router_tables.proofs.last_steps.steps_past.Goals as goal

pub returns : goal.returns
returns c = past_told c.args.before.now c.in_ok-steps.steps c.in_ok-last.last.items c.args.entries.now c.count_entries-count.result c.saturating_sub-first.result c.args.passed c.saturating_add.result
    c.count_entries-count.ensures c.saturating_sub-first.ensures c.saturating_add.ensures c.in_ok-last.ensures c.in_ok-steps.ensures.items c.in_ok-steps.ensures.total (omega (arith, c.if-passed-eq0.false))
