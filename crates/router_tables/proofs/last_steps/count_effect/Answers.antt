use Rattle.router_tables.proofs.GatheredSteps.{count_announced, count_withdrawn}
use Rattle.router_tables.proofs.last_steps.count_effect.Goals as goal

pub returns-in-Announce : goal.returns-in-Announce
returns-in-Announce c = rw (c.in-Announce.is, ← c.as_slice.ensures) (count_announced _ _ _ c.as_slice.result.now)

pub returns-in-Withdraw : goal.returns-in-Withdraw
returns-in-Withdraw c = rw (c.in-Withdraw.is, ← c.as_slice-in-Withdraw.ensures) (count_withdrawn _ _ c.as_slice-in-Withdraw.result.now)
