use Rattle.std.proofs.Common.{◌≡◌, ◌∙◌}
use Rattle.std.proofs.lemmas.Map.Entries.{entries_from_clone}
use Rattle.router_tables.specs.Tables.{steps_told}
use Rattle.router_tables.proofs.StepCopies.{told_copy}
use Rattle.router_tables.proofs.tables.RouterTables.share.Goals as goal

pub returns : goal.returns
returns c =
    let session : c.in_ok-share.field-0 ≡ c.self.inside.session = c.in_ok-share.ensures in
    let tables : c.in_ok-clone.field-0.entries ≡ c.self.inside.tables.entries = entries_from_clone _ _ (λ x y h. h) (λ x y h. h) _ _ c.in_ok-clone.ensures.cases in
    let steps : steps_told c.in_ok-copy.field-0 ≡ steps_told c.self.inside.steps = told_copy _ _ c.in_ok-copy.ensures in
    (λ i. record { session = session i; tables = tables i; steps = steps i }) ∙ c.self.view_is
