use Rattle.router_tables.proofs.CountSteps.{uncounted}
use Rattle.router_tables.proofs.counting.count_effect.Goals as goal

pub returns-in_default : goal.returns-in_default
returns-in_default c = uncounted c.args.counts.now c.args.effect.now c.in_default.not-Orphan c.in_default.not-Mirrored c.in_default.not-Passed c.in_default.not-Unread
