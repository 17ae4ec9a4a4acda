use Rattle.std.proofs.lemmas.List.{length-map}
use Rattle.plain_model.proofs.Gathering.{gathers_nothing, gathers_row, gathers_none, gathers_all}
use Rattle.plain_model.proofs.table.rows.Goals as goal
use Rattle.plain_model.proofs.table.rows.Goals.{in-Some+in_ok-put, in_default}

pub loop-at-init : goal.loop-at-init
loop-at-init c = rw c.new-rows.ensures.items (gathers_nothing _)

pub loop-at-preserved : goal.loop-at-preserved
loop-at-preserved c = elim c.match-row_at.branch [
  | in-Some+in_ok-put w ↦ rw w.rows-is (gathers_row _ _ _ _ _ c.loop-at.invariant w.in-Some.ensures.row w.in_ok-put.ensures)
  | in_default w ↦ rw w.rows-is (gathers_none _ _ _ c.loop-at.invariant w.in_default.ensures.none)
]

pub returns : goal.returns
returns c = gathers_all _ _ _ (rw length-map c.loop-at-test.false) c.loop-at.invariant
