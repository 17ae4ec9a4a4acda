-- A port in memory that never fails.
use Rattle.std.specs.Prelude.{ℕ}
use Rattle.wire_io.specs.Aside.{Aside}

-- what it shows, how many bytes its reads give at most, and how many reads were made
pub record SurePortValue : Type 0 where
  pub shows : Aside
  pub piece : ℕ
  pub reads : ℕ
