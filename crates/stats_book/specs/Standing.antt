-- The effects that a book of statistics stands for.
use Rattle.std.specs.Prelude.{◌≡◌, ◌↔◌, List, Some}
use Rattle.bmp_specs.specs.Rows.{HasStatistic}
use Rattle.bmp_specs.specs.Values.{KeyValue, StatValue, EffectValue}
use Rattle.bmp_specs.specs.StatKind.{kind_of}
use Rattle.stats_book.specs.Stats.{Stats, value_at}

-- a peer has the statistics that were reported while it was up and since its last Peer Up or Peer Down, each with the
-- last value that was reported (RFC 7854, section 4.8)
pub record StandsForStats (stats : Stats) (effects : List EffectValue) : Type 0 where
  pub values : (key : KeyValue) (stat : StatValue) → (value_at stats key (kind_of stat) ≡ Some stat.value) ↔ HasStatistic effects key stat
