-- A Route Monitoring message, as it is written (RFC 7854, section 4.6): what it can carry, what it has, and what it does.
use Rattle.std.specs.Prelude.{◌≡◌, ℕ, ◌+◌, ◌*◌, ◌<◌, ◌≤◌, ◌==◌, Bool, true, false, not, List, [], ◌∷◌, ◌++◌, length, map, Option, Some, None, ⊤}
use Rattle.std.specs.List.{AllByRecursion, IsDistinct}
use Rattle.std.specs.Option.{is_some}
use Rattle.byteorder.specs.Endian.{big_bytes}
use Rattle.bmp_specs.specs.declared.peers.View.{View}
use Rattle.bmp_specs.specs.declared.peers.View.TheVariants.{InPre, InPost, OutPre, OutPost, Loc}
use Rattle.bmp_specs.specs.declared.wire.Family.{Family}
use Rattle.bmp_specs.specs.declared.wire.Family.TheVariants.{V4, V6}
use Rattle.bmp_specs.specs.declared.wire.Side.{Side}
use Rattle.bmp_specs.specs.declared.wire.Side.TheVariants.{Inward, Outward, Local}
use Rattle.bmp_specs.specs.declared.wire.Width.TheVariants.{Four}
use Rattle.bmp_specs.specs.Attribute.{extended_length}
use Rattle.bmp_specs.specs.Attributes.{AreAttributes, is_read}
use Rattle.bmp_specs.specs.MessageBody.{ReadingState}
use Rattle.bmp_specs.specs.PathIds.{uses_path_ids}
use Rattle.bmp_specs.specs.PeerHeader.{IsViewOf, is_set, loc_rib}
use Rattle.bmp_specs.specs.Values.{AggregatorValue, AttrsReadValue, AttrsValue, EffectValue, KeyValue, NlriValue, OpensValue, OtherValue, SegmentValue, announce, withdraw}
use Rattle.bmp_writer.specs.PeerMessage.{IsHeaderOf, IsPeerMessage}
use Rattle.bmp_writer.specs.WrittenAttributes.{segments_size}
use Rattle.bmp_writer.specs.Written.{route_monitoring_type}
use Rattle.bmp_writer.specs.WrittenUpdate.{AreShort, HasRoom, IsUpdateOf, hop_bytes, is_plain, places, update_size, where_so}

-- the family of the first prefix, and whether it has an identifier
abbrev pub family_of : List NlriValue → Family
family_of [] = V4
family_of (n ∷ ns) = n.prefix.address.family

abbrev pub ids_of : List NlriValue → Bool
ids_of [] = false
ids_of (n ∷ ns) = is_some n.id

-- a prefix of the family, with an identifier or without
abbrev pub IsAlike : Family → Bool → NlriValue → Type 0
IsAlike family ids n = (n.prefix.address.family ≡ family) × (is_some n.id ≡ ids)

abbrev pub AreAlike : List NlriValue → Type 0
AreAlike ns = AllByRecursion (IsAlike (family_of ns) (ids_of ns)) ns

-- an IPv6 prefix is announced with a next hop
abbrev pub HasNeededHop : Family → List NlriValue → Option (List ℕ) → Type 0
HasNeededHop V4 ns hop = ⊤
HasNeededHop V6 [] hop = ⊤
HasNeededHop V6 (n ∷ ns) hop = is_some hop ≡ true

-- Where a Route Monitoring message can carry the routes: all prefixes have one family, and all have an identifier or none
-- has; there is one at least; and all has room.
pub record CanCarryRoutes (key : KeyValue) (view : View) (withdrawn announced : List NlriValue) (attrs : AttrsValue) : Type 0 where
  pub known : key.kind ≤ loc_rib
  pub instance : key.kind ≡ loc_rib → key.address.family ≡ V4
  pub among : IsViewOf key view
  pub some : 0 < length (withdrawn ++ announced)
  pub alike : AreAlike (withdrawn ++ announced)
  pub segments : AreShort attrs.path
  pub needed : HasNeededHop (family_of (withdrawn ++ announced)) announced attrs.hop
  pub hop : HasRoom (where_so (not (is_plain (family_of (withdrawn ++ announced)) attrs.hop)) announced) (hop_bytes attrs.hop)
  pub fits : update_size (places (family_of (withdrawn ++ announced)) withdrawn announced attrs) ≤ 65535

-- what the message does: the withdrawals, and then the announcements
abbrev pub routes_effects : KeyValue → View → List NlriValue → List NlriValue → AttrsValue → List EffectValue
routes_effects key view withdrawn announced attrs = map (λ n. withdraw key view n) withdrawn ++ map (λ n. announce key view n attrs) announced

-- attributes that are kept as they came: none of a type that is read, no two of one type, and the Extended Length bit cleared
pub record AreKept (others : List OtherValue) : Type 0 where
  pub unread : AllByRecursion (λ a. is_read a ≡ false) others
  pub distinct : IsDistinct (λ j k. j == k) (map (λ a. a.code) others)
  pub clear : AllByRecursion (λ a. is_set extended_length a.flags ≡ false) others

-- "Attribute Length" has two octets at most
abbrev pub HasOctets : OtherValue → Type 0
HasOctets a = length a.value ≤ 65535

-- a next hop of at most 255 bytes, or none
abbrev pub IsShortHop : Option (List ℕ) → Type 0
IsShortHop None = ⊤
IsShortHop (Some hop) = length hop ≤ 255

-- attributes that some field has in four-octet form, save for their next hop, which is absent or has at most 255 bytes
pub record IsGiven (attrs : AttrsValue) : Type 0 where
  pub field : List ℕ
  pub read : AttrsReadValue
  pub are : AreAttributes Four field read
  pub octets : AllByRecursion HasOctets are.parts
  pub same : record read.attrs { hop = attrs.hop } ≡ attrs
  pub hop : IsShortHop attrs.hop

-- an attribute that is kept as it came: not of a type that is read, without the Extended Length bit, and with room for its
-- value
abbrev pub IsKeptForm : OtherValue → Type 0
IsKeptForm a = (is_read a ≡ false) × (is_set extended_length a.flags ≡ false) × HasOctets a

-- not of this type
abbrev pub IsOtherCode : ℕ → OtherValue → Type 0
IsOtherCode code a = (code == a.code) ≡ false

-- an attribute has room for the path
abbrev pub FitsPath : Option (List SegmentValue) → Type 0
FitsPath None = ⊤
FitsPath (Some path) = segments_size path ≤ 65535

-- the address of an aggregator
abbrev pub HasFourOctets : Option AggregatorValue → Type 0
HasFourOctets None = ⊤
HasFourOctets (Some a) = length a.identifier ≡ 4

-- What makes them so: the attributes that are kept as they came are, no two of one type; and each value has room.
pub record CanBeGiven (attrs : AttrsValue) : Type 0 where
  pub others : AllByRecursion IsKeptForm attrs.others
  pub distinct : IsDistinct (λ j k. j == k) (map (λ a. a.code) attrs.others)
  pub path : FitsPath attrs.path
  pub aggregator : HasFourOctets attrs.aggregator
  pub communities : 4 * length attrs.communities ≤ 65535
  pub hop : IsShortHop attrs.hop

-- A Route Monitoring message can announce any one prefix with these attributes, of a peer and a view that a header can name;
-- and some field has them, save for a next hop of at most 255 bytes.
pub record CanBeAnnounced (attrs : AttrsValue) : Type 0 where
  pub given : IsGiven attrs
  pub carries : (key : KeyValue) (view : View) (n : NlriValue) → key.kind ≤ loc_rib → (key.kind ≡ loc_rib → key.address.family ≡ V4) → IsViewOf key view → n.prefix.bits ≤ 128 → CanCarryRoutes key view [] (n ∷ []) attrs

-- the side that a view speaks of
abbrev pub side_of_view : View → Side
side_of_view InPre = Inward
side_of_view InPost = Inward
side_of_view OutPre = Outward
side_of_view OutPost = Outward
side_of_view Loc = Local

-- the peer is up, and prefixes of the family have path identifiers or have none
abbrev pub HasUpWith : KeyValue → View → Family → Bool → ReadingState → Type 0
HasUpWith key view family ids state = (opens : OpensValue) × (state key ≡ Some opens) × (uses_path_ids opens.sent opens.received family (side_of_view view) ≡ ids)

-- the common header and the Per-Peer Header of a message with so many bytes after them
pub record IsHeadersOf (key : KeyValue) (view : View) (size : ℕ) (bytes : List ℕ) : Type 0 where
  pub head : List ℕ
  pub is : bytes ≡ (3 ∷ (big_bytes 4 (48 + size) ++ route_monitoring_type ∷ [])) ++ head
  pub head_is : IsHeaderOf key view head

-- the whole message
pub record IsRoutesMessage (key : KeyValue) (view : View) (withdrawn announced : List NlriValue) (attrs : AttrsValue) (bytes : List ℕ) : Type 0 where
  pub update : List ℕ
  pub is : IsPeerMessage route_monitoring_type key view update bytes
  pub update_is : IsUpdateOf (family_of (withdrawn ++ announced)) (places (family_of (withdrawn ++ announced)) withdrawn announced attrs) update

-- how many bytes it has
abbrev pub routes_size : List NlriValue → List NlriValue → AttrsValue → ℕ
routes_size withdrawn announced attrs = 48 + update_size (places (family_of (withdrawn ++ announced)) withdrawn announced attrs)
