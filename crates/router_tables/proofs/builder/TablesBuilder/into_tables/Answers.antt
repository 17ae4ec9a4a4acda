use Rattle.std.proofs.Common.{sym, subst}
use Rattle.bmp_specs.specs.Session.{session_effects}
use Rattle.router_tables.specs.Building.{BuilderValue, Builds}
use Rattle.router_tables.proofs.builder.TablesBuilder.into_tables.Goals as goal

pub returns : goal.returns
returns c entries h =
    let b = subst (λ (b : BuilderValue). Builds b entries) (sym c.self.view_is) h in
    record { session = b.session; rows = c.in_ok-tables.ensures (session_effects entries) b.rows; steps = c.in_ok-steps.ensures entries b.steps }
