-- The line of a route: its place, its path attributes (RFC 4271, section 5), and its path identifier where it has one. A
-- value that isn't there, and a list of none, is `-`.
use Rattle.std.specs.Prelude.{ℕ, ◌/◌, ◌%◌, ◌^◌, Bool, true, false, List, [], ◌∷◌, ◌++◌, Option, Some, None, length, take, drop, map, flat_map, ◌==◌, if◌then◌else◌, codes}
use Rattle.std.specs.List.{join_with_byte}
use Rattle.bmp_specs.specs.declared.wire.Family.TheVariants.{V4, V6}
use Rattle.bmp_specs.specs.declared.wire.SegmentKind.{SegmentKind}
use Rattle.bmp_specs.specs.declared.wire.SegmentKind.TheVariants.{Set, Sequence, ConfedSequence, ConfedSet}
use Rattle.bmp_specs.specs.AddressText.{text_in}
use Rattle.bmp_specs.specs.Lines.{line}
use Rattle.bmp_specs.specs.NumberText.{number_text}
use Rattle.bmp_specs.specs.PeerText.{hex_text, key_text, view_text}
use Rattle.bmp_specs.specs.PrefixText.{prefix_text}
use Rattle.bmp_specs.specs.Rows.{RowValue}
use Rattle.bmp_specs.specs.Values.{SegmentValue, AggregatorValue, OtherValue, AttrsValue}

-- `,`
abbrev pub comma : ℕ
comma = 44

-- `_`
abbrev pub underscore : ℕ
underscore = 95

abbrev pub absent : List ℕ
absent = codes "-"

-- texts with commas between them
abbrev pub comma_list : List (List ℕ) → List ℕ
comma_list [] = absent
comma_list (text ∷ texts) = join_with_byte comma (text ∷ texts)

-- a value by its text, where it is there
abbrev pub text_or_absent : {A : Type 0} → (A → List ℕ) → Option A → List ℕ
text_or_absent text None = absent
text_or_absent text (Some value) = text value

abbrev pub yes_or_no : Bool → List ℕ
yes_or_no true = codes "yes"
yes_or_no false = codes "no"

-- the next hop (RFC 4271, section 5.1.3; RFC 4760, section 3; RFC 2545, section 3): IPv4, IPv6, or the global and the
-- link-local IPv6 address; of any other length its bytes in hexadecimal
abbrev pub hop_text : List ℕ → List ℕ
hop_text hop =
    if length hop == 4 then text_in V4 hop else
    (if length hop == 16 then text_in V6 hop else
    (if length hop == 32 then text_in V6 (take 16 hop) ++ (comma ∷ text_in V6 (drop 16 hop)) else
    codes "x" ++ hex_text hop))

-- ORIGIN (RFC 4271, section 5.1.1)
abbrev pub origin_text : ℕ → List ℕ
origin_text code =
    if code == 0 then codes "igp" else
    (if code == 1 then codes "egp" else
    (if code == 2 then codes "incomplete" else number_text code))

-- the numbers of a segment within two brackets
abbrev pub bracketed : List ℕ → List ℕ → List ℕ → List ℕ
bracketed before numbers after = before ++ (join_with_byte comma (map number_text numbers) ++ after)

-- the pieces of a segment (RFC 4271, section 4.3; RFC 5065, section 3): each number of a sequence, and any other segment
-- as one
abbrev pub pieces_of_kind : SegmentKind → List ℕ → List (List ℕ)
pieces_of_kind Sequence numbers = map number_text numbers
pieces_of_kind Set numbers = bracketed (codes "{") numbers (codes "}") ∷ []
pieces_of_kind ConfedSequence numbers = bracketed (codes "(") numbers (codes ")") ∷ []
pieces_of_kind ConfedSet numbers = bracketed (codes "[") numbers (codes "]") ∷ []

abbrev pub segment_pieces : SegmentValue → List (List ℕ)
segment_pieces segment = pieces_of_kind segment.kind segment.numbers

abbrev pub joined_pieces : List (List ℕ) → List ℕ
joined_pieces [] = codes "empty"
joined_pieces (piece ∷ pieces) = join_with_byte underscore (piece ∷ pieces)

-- AS_PATH (RFC 4271, section 5.1.2)
abbrev pub path_text : List SegmentValue → List ℕ
path_text segments = joined_pieces (flat_map segment_pieces segments)

-- AGGREGATOR (RFC 4271, section 5.1.7): the AS, and the speaker's address
abbrev pub aggregator_text : AggregatorValue → List ℕ
aggregator_text a = number_text a.asn ++ (codes ":" ++ text_in V4 a.identifier)

-- a community (RFC 1997): its high 16 bits and its low ones
abbrev pub community_text : ℕ → List ℕ
community_text community = number_text (community / 2 ^ 16) ++ (codes ":" ++ number_text (community % 2 ^ 16))

-- the attributes that are told by their type codes alone
abbrev pub others_text : List OtherValue → List ℕ
others_text others = comma_list (map (λ other. number_text other.code) others)

-- the fields of the path attributes
abbrev pub attribute_fields : AttrsValue → List (List ℕ)
attribute_fields a =
    (codes "next=" ++ text_or_absent hop_text a.hop)
    ∷ (codes "origin=" ++ text_or_absent origin_text a.origin)
    ∷ (codes "path=" ++ text_or_absent path_text a.path)
    ∷ (codes "med=" ++ text_or_absent number_text a.med)
    ∷ (codes "pref=" ++ text_or_absent number_text a.pref)
    ∷ (codes "atomic=" ++ yes_or_no a.atomic)
    ∷ (codes "agg=" ++ text_or_absent aggregator_text a.aggregator)
    ∷ (codes "comm=" ++ comma_list (map community_text a.communities))
    ∷ (codes "other=" ++ others_text a.others)
    ∷ []

-- the field of a path identifier (RFC 7911, section 3), where there is one
abbrev pub id_fields : Option ℕ → List (List ℕ)
id_fields None = []
id_fields (Some id) = (codes "id=" ++ number_text id) ∷ []

-- the fields of a route from its peer on
abbrev pub route_fields : RowValue → List (List ℕ)
route_fields row =
    key_text row.row_key.key
    ∷ view_text row.row_key.view
    ∷ prefix_text row.row_key.nlri.prefix
    ∷ (attribute_fields row.route ++ id_fields row.row_key.nlri.id)

-- the line of a row of this lane
abbrev pub route_line : ℕ → RowValue → List ℕ
route_line lane row = line (codes "route") (number_text lane ∷ route_fields row)
