use Rattle.relay_out.proofs.Judged.{rows_writable}
use Rattle.relay_out.proofs.judge.can_announce_all.Goals as goal

pub returns : goal.returns
returns c = λ t.
    rows_writable c.args.info.now c.args.key.now c.args.view c.agree_on_ids-low.result c.agree_on_ids-high.result c.agree_on_ids-low.ensures c.agree_on_ids-high.ensures (c.can_complete.ensures.0 c.if-not-can_complete.false)
    c.args.table.now c.see_order.ensures.ordered c.see_order.ensures.nlri (c.all_pass.ensures t)
