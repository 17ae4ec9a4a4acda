-- A link in memory that never fails.
use Rattle.std.specs.Prelude.{ℕ}
use Rattle.wire_io.specs.Aside.{Aside}

-- what it shows, how many reads were made, and how many bytes were written
pub record SureLinkValue : Type 0 where
  pub shows : Aside
  pub reads : ℕ
  pub count : ℕ
