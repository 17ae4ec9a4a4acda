use Rattle.std.proofs.Common.{◌≡◌, ◌-◌, drop, length, map, take}
use Rattle.bmp_specs.specs.Steps.{steps_of}
use Rattle.rib_model.specs.Entries.{entry_values}
use Rattle.rib_model.specs.Steps.{step_value}
use Rattle.router_tables.proofs.last_steps.gathered.Given as goal

abbrev pub invariant-loop-entry : goal.invariant-loop-entry
invariant-loop-entry l = record {
  left : l.left ≡ l.passed - length (steps_of (entry_values (take l.entry-index l.entries)));
  steps : map step_value l.steps.items ≡ drop l.passed (steps_of (entry_values (take l.entry-index l.entries)));
}
