use Rattle.std.proofs.Common.{◌≤◌, ◌^◌, ◌-◌, ◌∙◌, min, length, List, refl, sym, ap, subst, arith}
use Rattle.bmp_specs.specs.Steps.{steps_of}
use Rattle.rib_model.specs.declared.entry.Entry.{Entry}
use Rattle.rib_model.specs.Entries.{entry_values}
use Rattle.router_tables.specs.Building.{AreLate, LateValue}
use Rattle.router_tables.proofs.LastToTell.{late_passed}
use Rattle.router_tables.proofs.late_steps.LateSteps.take.Goals as goal

pub returns : goal.returns
returns c so_far h =
    let count = c.count_entries-count.ensures ∙ ap (λ (l : List Entry). min (length (steps_of (entry_values l))) (2 ^ 64 - 1)) c.as_slice-2.ensures in
    let given = c.count_entries.ensures ∙ ap (λ (l : List Entry). min (length (steps_of (entry_values l))) (2 ^ 64 - 1)) c.as_slice.ensures in
    let enough : 1024 ≤ length (steps_of (entry_values c.args.entries)) = omega (arith, given, c.if-count_entries-lt-KEPT.false) in
    late_passed _ _ (entry_values c.args.entries) so_far c.count_entries-count.result (subst (λ (l : LateValue). AreLate l so_far) (sym c.self.view_is) h) refl count c.saturating_add-self-inside.ensures refl enough
