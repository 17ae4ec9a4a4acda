use Rattle.std.proofs.Common.{List, sym, ap, subst}
use Rattle.std.proofs.lemmas.Result.{IfOk-weaker}
use Rattle.rib_model.specs.declared.entry.Entry.{Entry}
use Rattle.rib_model.specs.Entries.{entry_values}
use Rattle.router_tables.specs.Building.{AreLate, LateValue}
use Rattle.router_tables.specs.Tables.{steps_told}
use Rattle.router_tables.proofs.LastToTell.{late_told}
use Rattle.router_tables.proofs.late_steps.LateSteps.into_steps.Goals as goal

pub returns : goal.returns
returns c = IfOk-weaker c.steps_past.result _ _ (λ steps makes entries h.
    late_told _ (steps_told steps) (entry_values c.as_slice.result.now) entries (ap (λ (l : List Entry). entry_values l) c.as_slice.ensures)
    (subst (λ (l : LateValue). AreLate l entries) (sym c.self.view_is) h) makes) c.steps_past.ensures
