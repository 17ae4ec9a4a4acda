-- The Path Attributes of an UPDATE message (RFC 4271, sections 4.3 and 5; RFC 1997; RFC 4760; RFC 6793).
use Rattle.std.specs.Prelude.{◌≡◌, ℕ, ◌+◌, ◌-◌, Bool, true, false, not, ◌==◌, if◌then◌else◌, List, [], length, drop, map, filter, find, Option, Some, None, ⊤}
use Rattle.std.specs.List.{list_any, IsDistinct}
use Rattle.std.specs.Option.{option_map}
use Rattle.byteorder.specs.Endian.{big_number}
use Rattle.bmp_specs.specs.declared.wire.Width.{Width}
use Rattle.bmp_specs.specs.AsPath.{ArePath, as_width}
use Rattle.bmp_specs.specs.Attribute.{IsAttribute, extended_length}
use Rattle.bmp_specs.specs.FourOctetAs.{AsAttributes, Chooses}
use Rattle.bmp_specs.specs.MpNlri.{IsMpReach, IsMpUnreach}
use Rattle.bmp_specs.specs.Number.{IsNumber}
use Rattle.bmp_specs.specs.Parts.{AreParts}
use Rattle.bmp_specs.specs.PeerHeader.{is_set}
use Rattle.bmp_specs.specs.Registries.{attribute_types}
use Rattle.bmp_specs.specs.Sequence.{IsField}
use Rattle.bmp_specs.specs.Values.{AggregatorValue, AttrsReadValue, OtherValue}

-- "Attribute Type Code"
abbrev pub origin : ℕ
origin = 1

abbrev pub as_path : ℕ
as_path = 2

abbrev pub next_hop : ℕ
next_hop = 3

abbrev pub multi_exit_disc : ℕ
multi_exit_disc = 4

abbrev pub local_pref : ℕ
local_pref = 5

abbrev pub atomic_aggregate : ℕ
atomic_aggregate = 6

abbrev pub aggregator : ℕ
aggregator = 7

abbrev pub communities : ℕ
communities = 8

abbrev pub mp_reach_nlri : ℕ
mp_reach_nlri = 14

abbrev pub mp_unreach_nlri : ℕ
mp_unreach_nlri = 15

abbrev pub as4_path : ℕ
as4_path = 17

abbrev pub as4_aggregator : ℕ
as4_aggregator = 18

-- the types that are read, those of the registry; attributes of all others are kept as they came
abbrev pub read_types : List ℕ
read_types = map (λ r. r.code) attribute_types

abbrev pub is_read : OtherValue → Bool
is_read a = list_any (λ code. code == a.code) read_types

-- the value of the attribute of a type, where there is one
abbrev pub value_of : ℕ → List OtherValue → Option (List ℕ)
value_of code parts = option_map (λ a. a.value) (find (λ a. a.code == code) parts)

-- nothing stands there, or what stands there has this value
abbrev pub Optional : {V : Type 0} → (List ℕ → V → Type 0) → Option (List ℕ) → Option V → Type 0
Optional Is None None = ⊤
Optional Is None (Some v) = ⊥
Optional Is (Some bytes) None = ⊥
Optional Is (Some bytes) (Some v) = Is bytes v

-- "AGGREGATOR": the AS number, in the width of the path's, and the address of the speaker in four octets
pub record IsAggregator (width : Width) (value : List ℕ) (a : AggregatorValue) : Type 0 where
  pub len : length value ≡ as_width width + 4
  pub asn_is : big_number (as_width width) value ≡ a.asn
  pub identifier_is : drop (as_width width) value ≡ a.identifier

-- "ATOMIC_AGGREGATE" has a length of 0
abbrev pub IsAtomic : Option (List ℕ) → Bool → Type 0
IsAtomic None atomic = atomic ≡ false
IsAtomic (Some value) atomic = (value ≡ []) × (atomic ≡ true)

-- "COMMUNITIES": "a set of four octet values" (RFC 1997), none where the attribute isn't there
abbrev pub AreCommunities : Option (List ℕ) → List ℕ → Type 0
AreCommunities None values = values ≡ []
AreCommunities (Some value) values = AreParts (IsNumber 4) value values

-- an attribute that isn't read, with the Extended Length bit cleared
abbrev pub kept : OtherValue → OtherValue
kept a = record { flags = if is_set extended_length a.flags then a.flags - extended_length else a.flags; code = a.code; value = a.value }

-- the field is these attributes, no two of one type, each with a value of the form of its type
pub record AreAttributes (width : Width) (field : List ℕ) (read : AttrsReadValue) : Type 0 where
  pub parts : List OtherValue
  pub are : AreParts IsAttribute field parts
  pub distinct : IsDistinct (λ j k. j == k) (map (λ a. a.code) parts)
  pub origin_is : Optional (IsNumber 1) (value_of origin parts) read.attrs.origin
  pub hop_is : Optional (IsField 4) (value_of next_hop parts) read.attrs.hop
  pub med_is : Optional (IsNumber 4) (value_of multi_exit_disc parts) read.attrs.med
  pub pref_is : Optional (IsNumber 4) (value_of local_pref parts) read.attrs.pref
  pub atomic_is : IsAtomic (value_of atomic_aggregate parts) read.attrs.atomic
  pub communities_are : AreCommunities (value_of communities parts) read.attrs.communities
  pub reach_is : Optional IsMpReach (value_of mp_reach_nlri parts) read.reach
  pub unreach_is : Optional IsMpUnreach (value_of mp_unreach_nlri parts) read.unreach
  pub stated : AsAttributes
  pub as_path_is : Optional (ArePath width) (value_of as_path parts) stated.as_path
  pub aggregator_is : Optional (IsAggregator width) (value_of aggregator parts) stated.aggregator
  pub as4_path_is : stated.as4_path ≡ value_of as4_path parts
  pub as4_aggregator_is : stated.as4_aggregator ≡ value_of as4_aggregator parts
  pub chosen : Chooses width stated read.attrs.aggregator read.attrs.path
  pub others_are : read.attrs.others ≡ map kept (filter (λ a. not (is_read a)) parts)
  pub count_is : read.count ≡ length parts
