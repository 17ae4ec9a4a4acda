use Rattle.std.proofs.Common.{refl, ap}
use Rattle.rib_model.specs.Entries.{entry_values}
use Rattle.router_tables.specs.Tables.{steps_told}
use Rattle.router_tables.proofs.LastToTell.{late_begun}
use Rattle.router_tables.proofs.late_steps.LateSteps.new.Goals as goal

pub returns : goal.returns
returns c = late_begun _ (ap steps_told c.in_ok-new.ensures) refl (ap entry_values c.new-2.ensures)
