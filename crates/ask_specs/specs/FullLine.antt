-- The line of a route with all its path attributes: the fields of `route_line` first, and then, of each attribute that is told
-- there by its type alone, the flags and the value.
use Rattle.std.specs.Prelude.{◌≡◌, ℕ, ◌-◌, ◌<◌, ◌==◌, ◌%◌, ◌^◌, nat_lt, Bool, true, false, not, ◌&&◌, if◌then◌else◌, List, [], ◌∷◌, ◌++◌, length, take, drop, map, flat_map, filter_map, slice_get, Option, Some, None, codes, All}
use Rattle.byteorder.specs.Endian.{big_bytes, big_number}
use Rattle.bmp_specs.specs.declared.wire.Family.TheVariants.{V4}
use Rattle.bmp_specs.specs.declared.wire.SegmentKind.{SegmentKind}
use Rattle.bmp_specs.specs.declared.wire.SegmentKind.TheVariants.{Set, Sequence, ConfedSequence, ConfedSet}
use Rattle.bmp_specs.specs.Address.{IsAddress, IsAddressPrefix}
use Rattle.bmp_specs.specs.AddressText.{text_in}
use Rattle.bmp_specs.specs.AsPath.{segment_type}
use Rattle.bmp_specs.specs.Lines.{line}
use Rattle.bmp_specs.specs.NumberText.{number_text}
use Rattle.bmp_specs.specs.PeerText.{hex_text}
use Rattle.bmp_specs.specs.RouteLine.{comma_list, route_fields, route_line}
use Rattle.bmp_specs.specs.Rows.{RowValue}
use Rattle.bmp_specs.specs.Values.{AggregatorValue, AttrsValue, OtherValue, SegmentValue}
use Rattle.ask_specs.specs.Items.{items, are_items}
use Rattle.ask_specs.specs.Traits.{IfNamed}
use Rattle.ask_specs.specs.TraitText.{colon, large_text, extended_text}

-- attributes with a field of their own: ORIGINATOR_ID and CLUSTER_LIST (RFC 4456, section 8), extended communities (RFC 4360),
-- AIGP (RFC 7311), large communities (RFC 8092), and "Only to Customer" (RFC 9234, section 5)
pub data OwnField : Type 0 where
  originator : OwnField
  clusters : OwnField
  extended : OwnField
  aigp : OwnField
  large : OwnField
  otc : OwnField

abbrev pub code_of : OwnField → ℕ
code_of originator = 9
code_of clusters = 10
code_of extended = 16
code_of aigp = 26
code_of large = 32
code_of otc = 35

-- The value isn't malformed (RFC 7606, sections 7.9, 7.10 and 7.14; RFC 8092, section 5; RFC 9234, section 5). Of AIGP it is one
-- TLV of type 1 and length 11, and no other (RFC 7311, section 3).
abbrev pub is_formed : OwnField → List ℕ → Bool
is_formed originator value = length value == 4
is_formed clusters value = are_items 4 value
is_formed extended value = are_items 8 value
is_formed aigp value = length value == 11 && big_number 3 value == 65547
is_formed large value = are_items 12 value
is_formed otc value = length value == 4

abbrev pub large_item_text : List ℕ → List ℕ
large_item_text item = large_text (big_number 4 item) (big_number 4 (drop 4 item)) (big_number 4 (drop 8 item))

-- the text of a value that is formed so
abbrev pub own_text : OwnField → List ℕ → List ℕ
own_text originator value = text_in V4 value
own_text clusters value = comma_list (map (text_in V4) (items 4 value))
own_text extended value = comma_list (map extended_text (items 8 value))
own_text aigp value = number_text (big_number 8 (drop 3 value))
own_text large value = comma_list (map large_item_text (items 12 value))
own_text otc value = number_text (big_number 4 value)

-- the text of the attribute, where it is this one and formed so
abbrev pub text_of_own : OwnField → OtherValue → Option (List ℕ)
text_of_own field other = if other.code == code_of field && is_formed field other.value then Some (own_text field other.value) else None

-- A type stands once among the attributes, so a field has one text at most.
abbrev pub own_field : List ℕ → OwnField → List OtherValue → List ℕ
own_field name field others = name ++ comma_list (filter_map (text_of_own field) others)

abbrev pub not_formed : OwnField → OtherValue → Bool
not_formed field other = not (is_formed field other.value)

-- the attribute has no field of its own, or its value isn't formed so
abbrev pub is_raw : OtherValue → Bool
is_raw other =
    if other.code == 9 then not_formed originator other else
    (if other.code == 10 then not_formed clusters other else
    (if other.code == 16 then not_formed extended other else
    (if other.code == 26 then not_formed aigp other else
    (if other.code == 32 then not_formed large other else
    (if other.code == 35 then not_formed otc other else true)))))

-- a type and octets in hexadecimal
abbrev pub raw_text : ℕ → List ℕ → List ℕ
raw_text code octets = number_text code ++ (colon ∷ hex_text octets)

abbrev pub raw_of : OtherValue → Option (List ℕ)
raw_of other = if is_raw other then Some (raw_text other.code other.value) else None

-- what is left of a path is divided as its text says, by whether a sequence stands before it and whether a segment has numbers
abbrev pub divided_by : Bool → SegmentKind → Bool → (Bool → Bool) → Bool
divided_by after_sequence Sequence has_numbers rest = not after_sequence && (has_numbers && rest true)
divided_by after_sequence Set has_numbers rest = rest false
divided_by after_sequence ConfedSequence has_numbers rest = rest false
divided_by after_sequence ConfedSet has_numbers rest = rest false

-- whether the text of a path says how it is divided: no sequence is empty, and none follows another
abbrev pub is_divided_plainly : Bool → List SegmentValue → Bool
is_divided_plainly after_sequence [] = true
is_divided_plainly after_sequence (segment ∷ path) = divided_by after_sequence segment.kind (nat_lt 0 (length segment.numbers)) (λ after. is_divided_plainly after path)

-- the octets of a path, in four-octet form
abbrev pub segment_octets : SegmentValue → List ℕ
segment_octets segment = segment_type segment.kind ∷ (length segment.numbers % 256) ∷ flat_map (big_bytes 4) segment.numbers

abbrev pub raw_path : Option (List SegmentValue) → List (List ℕ)
raw_path None = []
raw_path (Some path) = if is_divided_plainly false path then [] else raw_text 2 (flat_map segment_octets path) ∷ []

-- the fields of all that `route_line` doesn't tell
abbrev pub further_fields : AttrsValue → List (List ℕ)
further_fields a =
    (codes "flags=" ++ comma_list (map (λ other. hex_text (other.flags ∷ [])) a.others))
    ∷ own_field (codes "large=") large a.others
    ∷ own_field (codes "ext=") extended a.others
    ∷ own_field (codes "otc=") otc a.others
    ∷ own_field (codes "aigp=") aigp a.others
    ∷ own_field (codes "originator=") originator a.others
    ∷ own_field (codes "clusters=") clusters a.others
    ∷ (codes "raw=" ++ comma_list (raw_path a.path ++ filter_map raw_of a.others))
    ∷ []

abbrev pub full_fields : RowValue → List (List ℕ)
full_fields row = route_fields row ++ further_fields row.route

-- the line of a row of this lane with all its path attributes
abbrev pub full_line : ℕ → RowValue → List ℕ
full_line lane row = line (codes "route") (number_text lane ∷ full_fields row)

-- The full line begins with the plain line, without its end.
abbrev pub BeginsWithLine : Type 0
BeginsWithLine = (lane : ℕ) (row : RowValue) → (rest : List ℕ) × (full_line lane row ≡ take (length (route_line lane row) - 1) (route_line lane row) ++ 32 ∷ rest)

-- an octet
abbrev pub IsOctet : ℕ → Type 0
IsOctet n = n < 256

-- a number of four octets
abbrev pub IsFourOctets : ℕ → Type 0
IsFourOctets n = n < 2 ^ 32

-- what the readings give of an attribute that is kept as it came
pub record IsKept (other : OtherValue) : Type 0 where
  pub flags_is : IsOctet other.flags
  pub code_is : IsOctet other.code
  pub octets_are : All IsOctet other.value

-- what they give of a segment: at most 255 numbers of 32 bits
pub record IsGivenSegment (segment : SegmentValue) : Type 0 where
  pub few : length segment.numbers < 256
  pub numbers_are : All IsFourOctets segment.numbers

pub record IsGivenAggregator (a : AggregatorValue) : Type 0 where
  pub asn_is : IsFourOctets a.asn
  pub len : length a.identifier ≡ 4
  pub octets_are : All IsOctet a.identifier

-- what they give of a route; no type stands twice among the attributes that are kept
pub record IsGiven (a : AttrsValue) : Type 0 where
  pub kept : All IsKept a.others
  pub types_differ : (m n : ℕ) (x y : OtherValue) → slice_get a.others m ≡ Some x → slice_get a.others n ≡ Some y → x.code ≡ y.code → m ≡ n
  pub origin_is : IfNamed a.origin IsOctet
  pub path_is : IfNamed a.path (All IsGivenSegment)
  pub hop_is : IfNamed a.hop (All IsOctet)
  pub med_is : IfNamed a.med IsFourOctets
  pub pref_is : IfNamed a.pref IsFourOctets
  pub aggregator_is : IfNamed a.aggregator IsGivenAggregator
  pub communities_are : All IsFourOctets a.communities

-- what they give of a row: its prefix is one, and so is the address of its peer
pub record IsGivenRow (row : RowValue) : Type 0 where
  pub prefix_is : IsAddressPrefix row.row_key.nlri.prefix
  pub id_is : IfNamed row.row_key.nlri.id IsFourOctets
  pub kind_is : IsOctet row.row_key.key.kind
  pub address_is : IsAddress row.row_key.key.address
  pub distinguisher_is : row.row_key.key.distinguisher < 2 ^ 64
  pub route_is : IsGiven row.route

-- Two rows of routes with the same full line are the same row of the same lane: nothing of a route is lost.
abbrev pub TellsAll : Type 0
TellsAll = (lane other_lane : ℕ) (row other : RowValue) → IsFourOctets lane → IsFourOctets other_lane → IsGivenRow row → IsGivenRow other → full_line lane row ≡ full_line other_lane other → (lane ≡ other_lane) × (row ≡ other)
