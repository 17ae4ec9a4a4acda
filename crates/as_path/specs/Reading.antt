-- What the header of a path segment says, before its numbers are read.
use Rattle.std.specs.Prelude.{◌≡◌, ℕ, ◌+◌, ◌*◌, ◌≤◌, List, length, slice_index}
use Rattle.bmp_specs.specs.declared.wire.Width.{Width}
use Rattle.bmp_specs.specs.declared.wire.SegmentKind.{SegmentKind}
use Rattle.bmp_specs.specs.AsPath.{as_width, segment_type}

-- a segment of this kind with so many numbers stands at the front of the bytes, whole
pub record HasHeader (width : Width) (bytes : List ℕ) (kind : SegmentKind) (count : ℕ) : Type 0 where
  pub header : 2 ≤ length bytes
  pub kind_is : slice_index bytes 0 ≡ segment_type kind
  pub count_is : slice_index bytes 1 ≡ count
  pub whole : 2 + as_width width * count ≤ length bytes
