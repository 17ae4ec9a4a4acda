-- A router's tables in the making: what they are of the entries so far, and what is still to be made of them.
use Rattle.std.specs.Prelude.{◌≡◌, ℕ, ◌≤◌, ◌-◌, ◌^◌, ◌⊎◌, min, List, ◌++◌, length}
use Rattle.bmp_specs.specs.Session.{session_effects}
use Rattle.bmp_specs.specs.Steps.{steps_of}
use Rattle.bmp_specs.specs.Values.{EntryValue, StepValue}
use Rattle.recent_ring.specs.Recent.{RecentValue, recent}
use Rattle.router_tables.specs.Pending.{RowsValue, StandsForRows}
use Rattle.router_tables.specs.Session.{SessionValue, StandsForSession}

-- the last steps that are made, how many after them are passed over, and the entries after those
pub record LateValue : Type 0 where
  pub made : RecentValue StepValue
  pub passed : ℕ
  pub last : List EntryValue

-- steps were made of the first of these entries; those of the ones after are passed over, which have none where the last
-- entries have fewer than 1,024
pub record AreLate (late : LateValue) (entries : List EntryValue) : Type 0 where
  pub told : List EntryValue
  pub past : List EntryValue
  pub all : entries ≡ (told ++ past) ++ late.last
  pub made : late.made ≡ recent (steps_of told)
  pub passed : late.passed ≡ min (length (steps_of past)) (2 ^ 64 - 1)
  pub enough : (late.passed ≡ 0) ⊎ (1024 ≤ length (steps_of late.last))

pub record BuilderValue : Type 0 where
  pub session : SessionValue
  pub rows : RowsValue
  pub steps : LateValue

-- They are the present session of these entries, with exactly the rows that it leaves once the changes that are gathered
-- are made; and they will have the last steps of all the entries.
pub record Builds (builder : BuilderValue) (entries : List EntryValue) : Type 0 where
  pub session : StandsForSession builder.session entries
  pub rows : StandsForRows builder.rows (session_effects entries)
  pub steps : AreLate builder.steps entries
