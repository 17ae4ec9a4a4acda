-- AS_PATH (RFC 4271, section 4.3): path segments, each of a path segment type, a path segment length and a path segment
-- value. A path segment length of 0 is taken as it stands: the RFC lets it count AS numbers and sets no least number.
use Rattle.std.specs.Prelude.{◌≡◌, ℕ, ◌≤◌, List, length, drop, slice_index}
use Rattle.byteorder.specs.Endian.{big_number}
use Rattle.bmp_specs.specs.declared.wire.Width.{Width}
use Rattle.bmp_specs.specs.declared.wire.Width.TheVariants.{Two, Four}
use Rattle.bmp_specs.specs.declared.wire.SegmentKind.{SegmentKind}
use Rattle.bmp_specs.specs.declared.wire.SegmentKind.TheVariants.{Set, Sequence, ConfedSequence, ConfedSet}
use Rattle.bmp_specs.specs.Parts.{AreParts}
use Rattle.bmp_specs.specs.Values.{SegmentValue}

-- how many bytes an AS number has: two (RFC 4271, section 4.3), or four between speakers that agreed on it (RFC 6793, section 3)
abbrev pub as_width : Width → ℕ
as_width Two = 2
as_width Four = 4

-- "path segment type": AS_SET and AS_SEQUENCE (RFC 4271, section 4.3), AS_CONFED_SEQUENCE and AS_CONFED_SET (RFC 5065, section 3)
abbrev pub segment_type : SegmentKind → ℕ
segment_type Set = 1
segment_type Sequence = 2
segment_type ConfedSequence = 3
segment_type ConfedSet = 4

-- the bytes are this AS number, the highest byte first
pub record IsAsNumber (width : Width) (bytes : List ℕ) (asn : ℕ) : Type 0 where
  pub len : length bytes ≡ as_width width
  pub value : asn ≡ big_number (as_width width) bytes

-- "path segment value": AS numbers, one after another
abbrev pub AreAsNumbers : Width → List ℕ → List ℕ → Type 0
AreAsNumbers width bytes asns = AreParts (IsAsNumber width) bytes asns

-- the bytes are this path segment; "path segment length" counts AS numbers, not bytes
pub record IsSegment (width : Width) (bytes : List ℕ) (segment : SegmentValue) : Type 0 where
  pub header : 2 ≤ length bytes
  pub kind_is : slice_index bytes 0 ≡ segment_type segment.kind
  pub count_is : slice_index bytes 1 ≡ length segment.numbers
  pub numbers_are : AreAsNumbers width (drop 2 bytes) segment.numbers

-- the bytes are this AS path
abbrev pub ArePath : Width → List ℕ → List SegmentValue → Type 0
ArePath width bytes path = AreParts (IsSegment width) bytes path
