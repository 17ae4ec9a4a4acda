use Rattle.std.proofs.Common.{arith}
use Rattle.router_tables.proofs.EntrySteps.{taken_more}
use Rattle.router_tables.proofs.taken.take_entries.Goals as goal

pub loop-entry-preserved : goal.loop-entry-preserved
loop-entry-preserved c so_far h =
    taken_more c.loop-entry.session c.take.new.self c.loop-entry.rows c.take.new.rows c.entry-item.result
    c.in_ok-take.ensures.session c.in_ok-take.ensures.rows so_far c.args.entries.now c.loop-entry.entry-index (omega arith) c.entry-item.is (c.loop-entry.invariant so_far h)
