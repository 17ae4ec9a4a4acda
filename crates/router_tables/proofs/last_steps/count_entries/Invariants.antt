use Rattle.std.proofs.Common.{◌≡◌, ◌-◌, ◌^◌, length, min, take}
use Rattle.bmp_specs.specs.Steps.{steps_of}
use Rattle.rib_model.specs.Entries.{entry_values}
use Rattle.router_tables.proofs.last_steps.count_entries.Given as goal

abbrev pub invariant-loop-entry : goal.invariant-loop-entry
invariant-loop-entry l = l.count ≡ min (length (steps_of (entry_values (take l.entry-index l.entries)))) (2 ^ 64 - 1)
