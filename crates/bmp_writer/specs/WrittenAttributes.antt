-- Path attributes of an UPDATE message, as they are written (RFC 4271, section 4.3).
use Rattle.std.specs.Prelude.{◌≡◌, ℕ, ◌+◌, ◌*◌, ◌-◌, ◌<◌, ◌≤◌, nat_lt, Bool, true, false, if◌then◌else◌, List, [], ◌∷◌, length, slice_index, sum_by, Option, Some, None, ⊤, bit_or}
use Rattle.std.specs.List.{AllByRecursion}
use Rattle.byteorder.specs.Endian.{big_bytes}
use Rattle.bmp_specs.specs.declared.wire.Family.{Family}
use Rattle.bmp_specs.specs.declared.wire.Width.TheVariants.{Four}
use Rattle.bmp_specs.specs.AddressFamily.{afi_of, unicast}
use Rattle.bmp_specs.specs.AsPath.{ArePath}
use Rattle.bmp_specs.specs.Attribute.{IsAttribute, extended_length}
use Rattle.bmp_specs.specs.Attributes.{IsAggregator, IsAtomic, Optional, aggregator, as_path, atomic_aggregate, communities, local_pref, mp_reach_nlri, mp_unreach_nlri, multi_exit_disc, next_hop, origin}
use Rattle.bmp_specs.specs.MpNlri.{IsMpReach, IsMpUnreach}
use Rattle.bmp_specs.specs.Number.{IsNumber}
use Rattle.bmp_specs.specs.Parts.{AreParts, Split}
use Rattle.bmp_specs.specs.PeerHeader.{is_set}
use Rattle.bmp_specs.specs.Sequence.{IsField}
use Rattle.bmp_specs.specs.Values.{AttrsValue, MpValue, NlriValue, OtherValue, SegmentValue}
use Rattle.bmp_writer.specs.WrittenNlri.{AreOwnNlri, nlris_size}

-- "Attribute Flags": the Transitive bit, as in a well-known attribute; the Optional bit; and both
abbrev pub transitive : ℕ
transitive = 0x40

abbrev pub optional : ℕ
optional = 0x80

abbrev pub optional_transitive : ℕ
optional_transitive = 0xc0

-- the Extended Length bit cleared
abbrev pub cleared : ℕ → ℕ
cleared flags = if is_set extended_length flags then flags - extended_length else flags

-- the Extended Length bit is set exactly where the value has more than 255 bytes
abbrev pub flags_for : ℕ → ℕ → ℕ
flags_for flags size = if nat_lt 255 size then bit_or (cleared flags) extended_length else cleared flags

-- an attribute, as it is written
abbrev pub written : ℕ → ℕ → List ℕ → OtherValue
written flags code value = record { flags = flags_for flags (length value); code = code; value = value }

-- what stands before the value: "Attribute Flags", "Attribute Type Code" and "Attribute Length"
abbrev pub head_bytes : ℕ → ℕ → ℕ → List ℕ
head_bytes flags code size = if nat_lt 255 size then bit_or (cleared flags) extended_length ∷ code ∷ big_bytes 2 size else cleared flags ∷ code ∷ size ∷ []

-- how many bytes an attribute takes whose value has so many
abbrev pub attribute_size : ℕ → ℕ
attribute_size size = (if nat_lt 255 size then 4 else 3) + size

-- an attribute where there is a value
abbrev pub part_of : ℕ → ℕ → Option (List ℕ) → List OtherValue
part_of flags code None = []
part_of flags code (Some value) = written flags code value ∷ []

-- how many bytes it takes
abbrev pub part_size : Option (List ℕ) → ℕ
part_size None = 0
part_size (Some value) = attribute_size (length value)

-- an attribute with a value of this kind, or none where that is of this kind
pub record IsPart (flags code : ℕ) (Is : Option (List ℕ) → Type 0) (bytes : List ℕ) : Type 0 where
  pub value : Option (List ℕ)
  pub are : AreParts IsAttribute bytes (part_of flags code value)
  pub is : Is value

-- a piece of one form, and then one of another
abbrev pub Joined : (List ℕ → Type 0) → (List ℕ → Type 0) → List ℕ → Type 0
Joined Is Js bytes = (front : List ℕ) × (rest : List ℕ) × Split bytes front rest × Is front × Js rest

-- ORIGIN, AS_PATH, NEXT_HOP and MULTI_EXIT_DISC, each where the route has it
abbrev pub IsFirst : AttrsValue → List ℕ → Type 0
IsFirst attrs bytes =
    Joined (IsPart transitive origin (λ value. Optional (IsNumber 1) value attrs.origin))
    (Joined (IsPart transitive as_path (λ value. Optional (ArePath Four) value attrs.path))
    (Joined (IsPart transitive next_hop (λ value. Optional (IsField 4) value attrs.hop))
    (IsPart optional multi_exit_disc (λ value. Optional (IsNumber 4) value attrs.med)))) bytes

-- communities where there are any, and none where the attribute isn't there
abbrev pub AreSomeCommunities : Option (List ℕ) → List ℕ → Type 0
AreSomeCommunities None values = values ≡ []
AreSomeCommunities (Some value) values = AreParts (IsNumber 4) value values × (0 < length values)

-- LOCAL_PREF, ATOMIC_AGGREGATE, AGGREGATOR and COMMUNITIES, each where the route has it
abbrev pub IsSecond : AttrsValue → List ℕ → Type 0
IsSecond attrs bytes =
    Joined (IsPart transitive local_pref (λ value. Optional (IsNumber 4) value attrs.pref))
    (Joined (IsPart transitive atomic_aggregate (λ value. IsAtomic value attrs.atomic))
    (Joined (IsPart optional_transitive aggregator (λ value. Optional (IsAggregator Four) value attrs.aggregator))
    (IsPart optional_transitive communities (λ value. AreSomeCommunities value attrs.communities)))) bytes

-- the attributes of types 1 to 8
abbrev pub IsFront : AttrsValue → List ℕ → Type 0
IsFront attrs bytes = Joined (IsFirst attrs) (IsSecond attrs) bytes

-- an attribute that is kept as it came, as it is written
abbrev pub written_other : OtherValue → OtherValue
written_other other = written other.flags other.code other.value

abbrev pub IsOther : List ℕ → OtherValue → Type 0
IsOther bytes other = IsAttribute bytes (written_other other)

-- such attributes, one after another
abbrev pub AreOthers : List OtherValue → List ℕ → Type 0
AreOthers others bytes = AreParts IsOther bytes others

-- a multiprotocol attribute of some prefixes with this next hop, and none where there are no prefixes
pub record IsMulti (family : Family) (hop : List ℕ) (ns : List NlriValue) (m : MpValue) : Type 0 where
  pub prefixes : List ℕ
  pub is : m ≡ record { afi = afi_of family; safi = unicast; hop = hop; prefixes = prefixes }
  pub are : AreOwnNlri ns prefixes
  pub some : 0 < length ns

abbrev pub AreMulti : Family → List ℕ → List NlriValue → Option MpValue → Type 0
AreMulti family hop ns None = ns ≡ []
AreMulti family hop ns (Some m) = IsMulti family hop ns m

-- MP_REACH_NLRI with a reserved octet of 0
pub record IsPlainReach (value : List ℕ) (m : MpValue) : Type 0 where
  pub is : IsMpReach value m
  pub reserved : slice_index value (4 + length m.hop) ≡ 0

-- the value of MP_REACH_NLRI
pub record IsReachValue (family : Family) (hop : List ℕ) (ns : List NlriValue) (value : List ℕ) : Type 0 where
  pub prefixes : List ℕ
  pub is : IsPlainReach value (record { afi = afi_of family; safi = unicast; hop = hop; prefixes = prefixes })
  pub are : AreOwnNlri ns prefixes
  pub size : length value ≡ 5 + length hop + nlris_size ns

-- the value of MP_UNREACH_NLRI
pub record IsUnreachValue (family : Family) (ns : List NlriValue) (value : List ℕ) : Type 0 where
  pub prefixes : List ℕ
  pub is : IsMpUnreach value (record { afi = afi_of family; safi = unicast; hop = []; prefixes = prefixes })
  pub are : AreOwnNlri ns prefixes
  pub size : length value ≡ 3 + nlris_size ns

-- MP_REACH_NLRI (RFC 4760, section 3), where there are prefixes
pub record IsReach (family : Family) (hop : List ℕ) (ns : List NlriValue) (bytes : List ℕ) : Type 0 where
  pub multi : Option MpValue
  pub are : AreMulti family hop ns multi
  pub is : IsPart optional mp_reach_nlri (λ value. Optional IsPlainReach value multi) bytes

-- MP_UNREACH_NLRI (RFC 4760, section 4), where there are prefixes
pub record IsUnreach (family : Family) (ns : List NlriValue) (bytes : List ℕ) : Type 0 where
  pub multi : Option MpValue
  pub are : AreMulti family [] ns multi
  pub is : IsPart optional mp_unreach_nlri (λ value. Optional IsMpUnreach value multi) bytes

-- "path segment length" counts no more AS numbers
abbrev pub IsShortSegment : SegmentValue → Type 0
IsShortSegment segment = length segment.numbers ≤ 255

-- how many bytes the numbers of a path segment take, with its type and its count
abbrev pub segment_size : SegmentValue → ℕ
segment_size segment = 2 + 4 * length segment.numbers

abbrev pub segments_size : List SegmentValue → ℕ
segments_size path = sum_by segment_size path

-- a path that has room in an attribute, where there is one
abbrev pub HasPath : Option (List SegmentValue) → Type 0
HasPath None = ⊤
HasPath (Some path) = AllByRecursion IsShortSegment path × (segments_size path ≤ 65535)

-- an IPv4 address, where there is a next hop
abbrev pub HasHop : Option (List ℕ) → Type 0
HasHop None = ⊤
HasHop (Some hop) = length hop ≡ 4

-- how many bytes an attribute takes that may be there, with a value of so many bytes
abbrev pub optional_size : {V : Type 0} → (V → ℕ) → Option V → ℕ
optional_size size None = 0
optional_size size (Some v) = attribute_size (size v)

abbrev pub atomic_size : Bool → ℕ
atomic_size true = 3
atomic_size false = 0

-- how many bytes an attribute takes that is there where a list has items, each of so many bytes, after so many others
abbrev pub listed_size : {V : Type 0} → ℕ → (List V → ℕ) → List V → ℕ
listed_size before size [] = 0
listed_size before size (v ∷ vs) = attribute_size (before + size (v ∷ vs))

abbrev pub communities_size : List ℕ → ℕ
communities_size values = listed_size 0 (λ vs. 4 * length vs) values

abbrev pub others_size : List OtherValue → ℕ
others_size others = sum_by (λ other. attribute_size (length other.value)) others

-- how many bytes the attributes of types 1 to 8 take, without AS_PATH and COMMUNITIES, and with them
abbrev pub there_size : {V : Type 0} → ℕ → Option V → ℕ
there_size size None = 0
there_size size (Some v) = 3 + size

abbrev pub short_size : AttrsValue → ℕ
short_size attrs = there_size 1 attrs.origin + (there_size 4 attrs.hop + (there_size 4 attrs.med + (there_size 4 attrs.pref + (atomic_size attrs.atomic + there_size 8 attrs.aggregator))))

abbrev pub front_size : AttrsValue → ℕ
front_size attrs = short_size attrs + (optional_size segments_size attrs.path + communities_size attrs.communities)

-- the attributes with their next hop, or without
abbrev pub with_hop : Bool → AttrsValue → AttrsValue
with_hop plain attrs = record attrs { hop = if plain then attrs.hop else None }
