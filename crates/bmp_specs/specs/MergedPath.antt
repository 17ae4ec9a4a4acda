-- The AS path of a route that a speaker of two-byte AS numbers passed on, with the four-byte numbers of AS4_PATH put back
-- (RFC 6793, section 4.2.3), and the AS that a path begins from.
use Rattle.std.specs.Prelude.{ℕ, ◌-◌, Bool, true, false, not, ◌==◌, nat_lt, nat_le, if◌then◌else◌, List, [], ◌∷◌, ◌++◌, length, take, filter, sum_by, Option, None, slice_get, option_and_then}
use Rattle.bmp_specs.specs.declared.wire.SegmentKind.{SegmentKind}
use Rattle.bmp_specs.specs.declared.wire.SegmentKind.TheVariants.{Set, Sequence, ConfedSequence, ConfedSet}
use Rattle.bmp_specs.specs.Values.{SegmentValue}

-- An AS_SET counts as 1, no matter how many ASes it has (RFC 4271, section 9.1.2.2); a segment of a confederation is not
-- counted (RFC 5065, section 5.3).
abbrev pub count_of : SegmentKind → List ℕ → ℕ
count_of Set numbers = 1
count_of Sequence numbers = length numbers
count_of ConfedSequence numbers = 0
count_of ConfedSet numbers = 0

-- the number of AS numbers in the path
abbrev pub path_count : List SegmentValue → ℕ
path_count path = sum_by (λ segment. count_of segment.kind segment.numbers) path

-- an AS_SEQUENCE of these numbers
abbrev pub sequence_of : List ℕ → SegmentValue
sequence_of numbers = record { kind = Sequence; numbers = numbers }

-- What the leading part of n AS numbers takes of a segment and of the rest, whose leading part of m numbers is `lead_rest m`.
-- "a valid AS_CONFED_SEQUENCE or AS_CONFED_SET path segment SHALL be prepended if it is either the leading path segment or is
-- adjacent to a path segment that is prepended".
abbrev pub lead_of : SegmentKind → ℕ → SegmentValue → (ℕ → List SegmentValue) → List SegmentValue
lead_of ConfedSequence n segment lead_rest = segment ∷ lead_rest n
lead_of ConfedSet n segment lead_rest = segment ∷ lead_rest n
lead_of Set n segment lead_rest = if n == 0 then [] else segment ∷ lead_rest (n - 1)
lead_of Sequence n segment lead_rest =
    if n == 0 then [] else
    if nat_le (length segment.numbers) n then segment ∷ lead_rest (n - length segment.numbers) else
    sequence_of (take n segment.numbers) ∷ []

-- "as many AS numbers and path segments as necessary from the leading part" of the path, so that they count n
abbrev pub lead : ℕ → List SegmentValue → List SegmentValue
lead n [] = []
lead n (segment ∷ rest) = lead_of segment.kind n segment (λ m. lead m rest)

-- The path of AS_PATH, `short`, and AS4_PATH, `long`: where AS_PATH has fewer AS numbers AS4_PATH is ignored; else the leading
-- part of AS_PATH is prepended to AS4_PATH, "so that the AS path information has a number of AS numbers identical to that of
-- the AS_PATH attribute".
abbrev pub merged_path : List SegmentValue → List SegmentValue → List SegmentValue
merged_path short long =
    if nat_lt (path_count short) (path_count long) then short else
    lead (path_count short - path_count long) short ++ long

-- whether a segment is one of a confederation
abbrev pub is_confederation : SegmentKind → Bool
is_confederation Set = false
is_confederation Sequence = false
is_confederation ConfedSequence = true
is_confederation ConfedSet = true

-- AS4_PATH without its confederation segments: who receives these "MUST discard these path segments" (RFC 6793, section 6)
abbrev pub without_confederation : List SegmentValue → List SegmentValue
without_confederation path = filter (λ segment. not (is_confederation segment.kind)) path

-- the last item of a list
abbrev pub last_of : {X : Type 0} → List X → Option X
last_of xs = slice_get xs (length xs - 1)

-- the AS that a segment ends with, where the segment says in which order its ASes were passed
abbrev pub ends_with : SegmentKind → List ℕ → Option ℕ
ends_with Set numbers = None
ends_with Sequence numbers = last_of numbers
ends_with ConfedSequence numbers = None
ends_with ConfedSet numbers = None

-- The AS that originated the route, "the rightmost AS in the final segment of the AS_PATH attribute in the Route if that segment
-- is of type AS_SEQUENCE" (RFC 6811, section 2). A path that is empty, or that ends in another segment, has none here.
abbrev pub path_origin : List SegmentValue → Option ℕ
path_origin path = option_and_then (λ segment. ends_with segment.kind segment.numbers) (last_of path)
