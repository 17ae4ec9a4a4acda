use Rattle.std.proofs.Common.{◌+◌, arith, take}
use Rattle.bmp_specs.specs.Steps.{steps_in, steps_of}
use Rattle.rib_model.specs.Entries.{entry_value, entry_values}
use Rattle.router_tables.proofs.GatheredSteps.{counted_more, entries_more}
use Rattle.router_tables.proofs.last_steps.count_entries.Goals as goal

pub loop-entry-preserved : goal.loop-entry-preserved
loop-entry-preserved c =
    let entries = c.args.entries.now in
    let i = c.loop-entry.entry-index in
    counted_more (steps_of (entry_values (take i entries))) (steps_in (entry_value c.entry-item.result)) (steps_of (entry_values (take (i + 1) entries)))
    c.loop-entry.count c.count_entry.result c.saturating_add-count.result (entries_more entries i c.entry-item.result (omega arith) c.entry-item.is)
    c.loop-entry.invariant (omega (arith, c.count_entry.ensures)) c.saturating_add-count.ensures
