-- What a lane publishes.
use Rattle.std.specs.Prelude.{◌≡◌, List, ◌++◌}
use Rattle.bmp_specs.specs.Values.{EntryValue}
use Rattle.cut_publisher.specs.History.{Begins, Fed, IsUnmarked}
use Rattle.rib_model.specs.declared.entry.Entry.{Entry}
use Rattle.rib_model.specs.Entries.{entry_values}

-- The pass published entries with these values, in order, after those that it had published. The history that it has
-- seen only grew; no mark came into it.
pub record Grows (old new : Fed Entry) (values : List EntryValue) : Type 0 where
  pub station : new.station ≡ old.station
  pub lane : new.lane ≡ old.lane
  pub made : List Entry
  pub values_are : values ≡ entry_values made
  pub entries : new.entries ≡ old.entries ++ made
  pub seen : Begins old.seen new.seen
  pub unmarked : IsUnmarked old.seen → IsUnmarked new.seen

-- the last of these entries are those
abbrev pub EndsWith : List EntryValue → List EntryValue → Type 0
EndsWith entries last = (before : List EntryValue) × (entries ≡ before ++ last)
