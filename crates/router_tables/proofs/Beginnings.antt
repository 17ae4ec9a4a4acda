-- Tables before all entries.
use Rattle.std.proofs.Common.{◌≡◌, [], None, Some, sym, ap, ◌∙◌}
use Rattle.bmp_specs.proofs.RowLaws.{none_row}
use Rattle.recent_ring.specs.Recent.{RecentValue, recent}
use Rattle.rib_model.specs.declared.step.Step.{Step}
use Rattle.router_tables.specs.Session.{SessionValue, StandsForSession}
use Rattle.router_tables.specs.Tables.{Tables, AreRowsOf, StandsFor, route_at, steps_told}

-- no tables have no rows
pub empty_rows : (tables : Tables) → tables ≡ [] → AreRowsOf tables []
empty_rows tables empty row = (
  λ t. let e : None ≡ Some row.route = sym (ap (λ (ts : Tables). route_at ts row.row_key) empty) ∙ t in cc,
  λ u. absurd (none_row row u),
)

pub stands_new : (session : SessionValue) (tables : Tables) (steps : RecentValue Step) → StandsForSession session [] → tables ≡ [] → steps ≡ recent []
    → StandsFor (record { session = session; tables = tables; steps = steps_told steps }) []
stands_new session tables steps stands empty none = record {
  session = stands;
  rows = empty_rows tables empty;
  steps = ap steps_told none;
}
