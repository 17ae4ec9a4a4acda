use Rattle.station_core.proofs.Histories.{next_taken}
use Rattle.station_core.proofs.machine.count_next.Goals as goal

pub returns-clause-next : goal.returns-clause-next
returns-clause-next c = next_taken c.args.pending.now c.count_before_closing-before.result c.min.result c.count_before_closing-before.ensures.place (rw c.max.ensures at c.min.ensures)
