use Rattle.std.proofs.Common.{◌++◌, ◌∙◌, ap, map}
use Rattle.rib_model.specs.Steps.{step_value}
use Rattle.router_tables.proofs.GatheredSteps.{count_announced, count_withdrawn, rest_left, rest_announced, rest_withdrawn}
use Rattle.router_tables.proofs.last_steps.gather_effect.Goals as goal

pub returns-in_ok-gather_each-in-Announce-clause-left : goal.returns-in_ok-gather_each-in-Announce-clause-left
returns-in_ok-gather_each-in-Announce-clause-left c = rw (c.in-Announce.is, ← c.as_slice-nlris.ensures)
    (rest_left c.as_slice-nlris.result.now _ c.args.passed c.min-first.result c.min-first.ensures (count_announced _ _ _ c.as_slice-nlris.result.now))

pub returns-in_ok-gather_each-in-Announce-clause-steps : goal.returns-in_ok-gather_each-in-Announce-clause-steps
returns-in_ok-gather_each-in-Announce-clause-steps c = rw (c.in-Announce.is, ← c.as_slice-nlris.ensures)
    (c.in_ok-gather_each-in-Announce.ensures ∙ ap (λ l. map step_value c.args.steps.now.items ++ l) (rest_announced _ _ _ c.as_slice-nlris.result.now c.args.passed c.min-first.result c.min-first.ensures))

pub returns-in_ok-gather_withdrawn-in-Withdraw-clause-left : goal.returns-in_ok-gather_withdrawn-in-Withdraw-clause-left
returns-in_ok-gather_withdrawn-in-Withdraw-clause-left c = rw (c.in-Withdraw.is, ← c.as_slice-nlris-in-Withdraw.ensures)
    (rest_left c.as_slice-nlris-in-Withdraw.result.now _ c.args.passed c.min-first-in-Withdraw.result c.min-first-in-Withdraw.ensures (count_withdrawn _ _ c.as_slice-nlris-in-Withdraw.result.now))

pub returns-in_ok-gather_withdrawn-in-Withdraw-clause-steps : goal.returns-in_ok-gather_withdrawn-in-Withdraw-clause-steps
returns-in_ok-gather_withdrawn-in-Withdraw-clause-steps c = rw (c.in-Withdraw.is, ← c.as_slice-nlris-in-Withdraw.ensures)
    (c.in_ok-gather_withdrawn-in-Withdraw.ensures
    ∙ ap (λ l. map step_value c.args.steps.now.items ++ l) (rest_withdrawn _ _ c.as_slice-nlris-in-Withdraw.result.now c.args.passed c.min-first-in-Withdraw.result c.min-first-in-Withdraw.ensures))
