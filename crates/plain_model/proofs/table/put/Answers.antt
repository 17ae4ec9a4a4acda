use Rattle.plain_model.proofs.Gathering.{put_row, put_nothing}
use Rattle.plain_model.proofs.table.put.Goals as goal

pub returns-in_ok-insert : goal.returns-in_ok-insert
returns-in_ok-insert c = let gap = rw c.deref.ensures.value at c.in-Err.ensures.gap in rw c.in_ok-insert.ensures.items (put_row _ _ _ c.requires gap)

pub returns-in_default : goal.returns-in_default
returns-in_default c =
    let there = rw c.deref.ensures.value at c.in_default.ensures.there in
    put_nothing c.args.rows.now.items c.args.row c.in_default.field-0 c.requires there
