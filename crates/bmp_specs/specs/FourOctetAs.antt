-- The AS path and the aggregator of a route, where AS4_PATH and AS4_AGGREGATOR may stand beside AS_PATH and AGGREGATOR
-- (RFC 6793, sections 4.2.2 and 4.2.3).
use Rattle.std.specs.Prelude.{◌≡◌, ℕ, Bool, false, not, ◌==◌, ◌⊎◌, if◌then◌else◌, MatchBool, List, length, drop, Option, Some, None}
use Rattle.byteorder.specs.Endian.{big_number}
use Rattle.bmp_specs.specs.declared.wire.Width.{Width}
use Rattle.bmp_specs.specs.declared.wire.Width.TheVariants.{Two, Four}
use Rattle.bmp_specs.specs.AsPath.{ArePath}
use Rattle.bmp_specs.specs.MergedPath.{merged_path, without_confederation}
use Rattle.bmp_specs.specs.Values.{AggregatorValue, SegmentValue}

-- "AS_TRANS" (RFC 6793, section 9)
abbrev pub as_trans : ℕ
as_trans = 23456

-- "If the AS number in the AGGREGATOR attribute is not AS_TRANS, then: the AS4_AGGREGATOR attribute and the AS4_PATH
-- attribute SHALL be ignored", where both AGGREGATOR and AS4_AGGREGATOR are there
abbrev pub ignores_as4 : Option AggregatorValue → Option (List ℕ) → Bool
ignores_as4 (Some aggregator) (Some as4_aggregator) = not (aggregator.asn == as_trans)
ignores_as4 (Some aggregator) None = false
ignores_as4 None as4_aggregator = false

-- "the information in the AS4_AGGREGATOR attribute" in place of AGGREGATOR's, where it has its 8 octets
abbrev pub merged_aggregator : Option AggregatorValue → Option (List ℕ) → Option AggregatorValue
merged_aggregator (Some aggregator) (Some as4_aggregator) =
    if length as4_aggregator == 8 then Some (record { asn = big_number 4 as4_aggregator; identifier = drop 4 as4_aggregator }) else Some aggregator
merged_aggregator (Some aggregator) None = Some aggregator
merged_aggregator None as4_aggregator = None

-- the segments of AS4_PATH, put back into those of AS_PATH
pub record PutsBack (as_path : List SegmentValue) (as4_path : List ℕ) (path : Option (List SegmentValue)) : Type 0 where
  pub segments : List SegmentValue
  pub are : ArePath Four as4_path segments
  pub path_is : path ≡ Some (merged_path as_path (without_confederation segments))

-- AS4_PATH has no segments in its octets, and is ignored
pub record Ignores (as_path : List SegmentValue) (as4_path : List ℕ) (path : Option (List SegmentValue)) : Type 0 where
  pub none : (segments : List SegmentValue) → ArePath Four as4_path segments → ⊥
  pub path_is : path ≡ Some as_path

-- the path that AS_PATH and AS4_PATH give together
abbrev pub IsMergedPath : Option (List SegmentValue) → Option (List ℕ) → Option (List SegmentValue) → Type 0
IsMergedPath None as4_path path = path ≡ None
IsMergedPath (Some as_path) None path = path ≡ Some as_path
IsMergedPath (Some as_path) (Some as4_path) path = PutsBack as_path as4_path path ⊎ Ignores as_path as4_path path

-- "AGGREGATOR" and "AS_PATH" as they were read, "AS4_AGGREGATOR" and "AS4_PATH" as bytes
pub record AsAttributes : Type 0 where
  pub aggregator : Option AggregatorValue
  pub as4_aggregator : Option (List ℕ)
  pub as_path : Option (List SegmentValue)
  pub as4_path : Option (List ℕ)

-- what the route has: in four-octet form AS_PATH and AGGREGATOR alone count
abbrev pub Chooses : Width → AsAttributes → Option AggregatorValue → Option (List SegmentValue) → Type 0
Chooses Four a aggregator path = (aggregator ≡ a.aggregator) × (path ≡ a.as_path)
Chooses Two a aggregator path = MatchBool (ignores_as4 a.aggregator a.as4_aggregator)
    ((aggregator ≡ a.aggregator) × (path ≡ a.as_path))
    ((aggregator ≡ merged_aggregator a.aggregator a.as4_aggregator) × IsMergedPath a.as_path a.as4_path path)
