-- The AS that originated a route, as validation takes it: "Route Origin ASN" (RFC 6811, section 2). `path_origin` of
-- `MergedPath`, by which rows are asked for, has none where this one is the speaker's own.
use Rattle.std.specs.Prelude.{ℕ, List, Option, None, Some, unwrap_or, option_and_then}
use Rattle.bmp_specs.specs.declared.wire.SegmentKind.{SegmentKind}
use Rattle.bmp_specs.specs.declared.wire.SegmentKind.TheVariants.{Set, Sequence, ConfedSequence, ConfedSet}
use Rattle.bmp_specs.specs.MergedPath.{last_of}
use Rattle.bmp_specs.specs.Values.{AttrsValue, PeerInfoValue, SegmentValue}

-- by the "final segment of the AS_PATH attribute": "the rightmost AS" of an AS_SEQUENCE, the "speaker's own AS number if that
-- segment is of type AS_CONFED_SEQUENCE or AS_CONFED_SET", and "NONE" if it "is of any other type"
abbrev pub origin_by : SegmentKind → List ℕ → ℕ → Option ℕ
origin_by Set numbers own = None
origin_by Sequence numbers own = last_of numbers
origin_by ConfedSequence numbers own = Some own
origin_by ConfedSet numbers own = Some own

-- the speaker's own too "if the AS_PATH attribute is empty"
abbrev pub origin_at_end : Option SegmentValue → ℕ → Option ℕ
origin_at_end None own = Some own
origin_at_end (Some segment) own = origin_by segment.kind segment.numbers own

-- the origin of a route whose peer told this: the speaker is the one that is monitored, and its AS number stands in the OPEN
-- that it sent
abbrev pub route_origin : AttrsValue → PeerInfoValue → Option ℕ
route_origin attrs info = origin_at_end (option_and_then last_of attrs.path) (unwrap_or info.sent.four info.sent.my_as)
