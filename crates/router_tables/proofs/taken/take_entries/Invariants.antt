use Rattle.std.proofs.Common.{List, ◌++◌, take}
use Rattle.bmp_specs.specs.Values.{EntryValue}
use Rattle.rib_model.specs.Entries.{entry_values}
use Rattle.router_tables.specs.Taken.{AreTaken}
use Rattle.router_tables.proofs.taken.take_entries.Given as goal

abbrev pub invariant-loop-entry : goal.invariant-loop-entry
invariant-loop-entry l = (so_far : List EntryValue) → AreTaken l.fn.session l.fn.rows so_far
    → AreTaken l.session l.rows (so_far ++ entry_values (take l.entry-index l.entries))
