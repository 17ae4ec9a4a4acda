-- What AS_PATH, AGGREGATOR, AS4_PATH and AS4_AGGREGATOR say together.
use Rattle.std.specs.Prelude.{◌≡◌, ℕ, List, Option}
use Rattle.bmp_specs.specs.declared.wire.Width.{Width}
use Rattle.bmp_specs.specs.AsPath.{ArePath}
use Rattle.bmp_specs.specs.Attributes.{IsAggregator, Optional, aggregator, as4_aggregator, as4_path, as_path}
use Rattle.bmp_specs.specs.FourOctetAs.{AsAttributes, Chooses}
use Rattle.bmp_specs.specs.Values.{AggregatorValue, SegmentValue}

-- the values at their types state these four, and they give this aggregator and this path
pub record StatesAs (width : Width) (value : ℕ → Option (List ℕ)) (chosen_aggregator : Option AggregatorValue) (path : Option (List SegmentValue)) : Type 0 where
  pub stated : AsAttributes
  pub as_path_is : Optional (ArePath width) (value as_path) stated.as_path
  pub aggregator_is : Optional (IsAggregator width) (value aggregator) stated.aggregator
  pub as4_path_is : stated.as4_path ≡ value as4_path
  pub as4_aggregator_is : stated.as4_aggregator ≡ value as4_aggregator
  pub chosen : Chooses width stated chosen_aggregator path
