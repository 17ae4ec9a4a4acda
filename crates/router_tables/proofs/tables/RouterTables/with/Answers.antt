use Rattle.std.proofs.Common.{ap, ◌∙◌, ◌++◌}
use Rattle.std.proofs.lemmas.Map.Entries.{entries_from_clone}
use Rattle.bmp_specs.specs.Session.{session_effects}
use Rattle.rib_model.specs.Entries.{entry_values}
use Rattle.router_tables.specs.Tables.{TablesValue}
use Rattle.router_tables.proofs.EntrySteps.{taken_none}
use Rattle.router_tables.proofs.tables.RouterTables.with.Goals as goal

pub returns : goal.returns
returns c so_far h =
    let session = c.in_ok-session.ensures ∙ ap (λ (t : TablesValue). t.session) c.self.view_is in
    let tables = entries_from_clone _ _ (λ x y h. h) (λ x y h. h) _ _ c.in_ok-clone.ensures.cases ∙ ap (λ (t : TablesValue). t.tables) c.self.view_is in
    let steps = ap (λ (t : TablesValue). t.steps) c.self.view_is in
    let was = taken_none c.args.self.now c.in_ok-session.session c.new-rows.result c.in_ok-clone.field-0.entries session tables c.new-rows.ensures so_far h in
    let now = c.in_ok-take_entries.ensures so_far was in
    record { session = now.session; rows = c.in_ok-tables.ensures (session_effects (so_far ++ entry_values c.args.entries.now)) now.rows; steps = c.in_ok-steps.ensures so_far (steps ∙ h.steps) }
