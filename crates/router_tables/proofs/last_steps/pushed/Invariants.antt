use Rattle.std.proofs.Common.{◌≡◌, List, ◌++◌, take}
use Rattle.bmp_specs.specs.Steps.{steps_of}
use Rattle.bmp_specs.specs.Values.{EntryValue}
use Rattle.recent_ring.specs.Recent.{recent}
use Rattle.rib_model.specs.Entries.{entry_values}
use Rattle.router_tables.specs.Tables.{steps_told}
use Rattle.router_tables.proofs.last_steps.pushed.Given as goal

abbrev pub invariant-loop-entry : goal.invariant-loop-entry
invariant-loop-entry l = (so_far : List EntryValue) → steps_told l.before ≡ recent (steps_of so_far) → steps_told l.steps ≡ recent (steps_of (so_far ++ entry_values (take l.entry-index l.entries)))
