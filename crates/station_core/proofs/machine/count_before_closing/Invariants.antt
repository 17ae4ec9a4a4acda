use Rattle.std.proofs.Common.{◌≡◌, ℕ, ◌<◌, false, get_or}
use Rattle.rib_model.specs.declared.entry.Entry.{Entry}
use Rattle.rib_model.specs.Entries.{entry_value}
use Rattle.station_core.specs.Machine.{is_closing}
use Rattle.station_core.proofs.machine.count_before_closing.Given as goal

abbrev pub invariant-loop-at : goal.invariant-loop-at
invariant-loop-at l = (k : ℕ) (d : Entry) → k < l.at → is_closing (entry_value (get_or l.entries k d)) ≡ false
