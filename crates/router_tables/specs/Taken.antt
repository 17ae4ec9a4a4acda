-- A router's tables while entries are taken: what they change of its routes is gathered, and made at the end.
use Rattle.std.specs.Prelude.{List}
use Rattle.bmp_specs.specs.Session.{session_effects}
use Rattle.bmp_specs.specs.Values.{EntryValue}
use Rattle.router_tables.specs.Pending.{RowsValue, StandsForRows}
use Rattle.router_tables.specs.Session.{SessionValue, StandsForSession}

-- they are what these entries leave
pub record AreTaken (present : SessionValue) (routes : RowsValue) (entries : List EntryValue) : Type 0 where
  pub session : StandsForSession present entries
  pub rows : StandsForRows routes (session_effects entries)
