-- How a path is divided, one segment after another.
use Rattle.std.specs.Prelude.{Bool, true, false, not, ◌&&◌, nat_lt, length}
use Rattle.bmp_specs.specs.declared.wire.SegmentKind.{SegmentKind}
use Rattle.bmp_specs.specs.declared.wire.SegmentKind.TheVariants.{Set, Sequence, ConfedSequence, ConfedSet}
use Rattle.bmp_specs.specs.Values.{SegmentValue}

abbrev pub is_sequence : SegmentKind → Bool
is_sequence Sequence = true
is_sequence Set = false
is_sequence ConfedSequence = false
is_sequence ConfedSet = false

-- whether the text says where a segment begins, by whether a sequence stands before it and whether it has numbers
abbrev pub begins_plainly : Bool → SegmentKind → Bool → Bool
begins_plainly after_sequence Sequence has_numbers = not after_sequence && has_numbers
begins_plainly after_sequence Set has_numbers = true
begins_plainly after_sequence ConfedSequence has_numbers = true
begins_plainly after_sequence ConfedSet has_numbers = true

-- the same of a segment
abbrev pub segment_begins_plainly : Bool → SegmentValue → Bool
segment_begins_plainly after_sequence segment = begins_plainly after_sequence segment.kind (nat_lt 0 (length segment.numbers))
