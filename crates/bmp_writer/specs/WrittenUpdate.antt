-- An UPDATE message, as it is written (RFC 4271, section 4.3; RFC 4760): where the prefixes stand, and the bytes of all.
use Rattle.std.specs.Prelude.{◌≡◌, ℕ, ◌+◌, ◌≤◌, ◌==◌, Bool, true, false, not, List, [], ◌∷◌, ◌++◌, length, Option, Some, None, ⊤}
use Rattle.std.specs.List.{AllByRecursion}
use Rattle.byteorder.specs.Endian.{big_bytes}
use Rattle.bmp_specs.specs.declared.wire.Family.{Family}
use Rattle.bmp_specs.specs.declared.wire.Family.TheVariants.{V4, V6}
use Rattle.bmp_specs.specs.BgpMessage.{IsBgpMessage, update_type}
use Rattle.bmp_specs.specs.TreatAsWithdraw.{no_attributes}
use Rattle.bmp_specs.specs.Values.{AttrsValue, NlriValue, OtherValue, SegmentValue}
use Rattle.bmp_writer.specs.WrittenAttributes.{AreOthers, HasHop, IsFront, IsReach, IsShortSegment, IsUnreach, Joined, front_size, listed_size, others_size, with_hop}
use Rattle.bmp_writer.specs.WrittenNlri.{AreOwnNlri, nlris_size}

-- Where the prefixes stand: in "Withdrawn Routes", in MP_UNREACH_NLRI, in "Network Layer Reachability Information" and in
-- MP_REACH_NLRI; the attributes of types 1 to 8; the next hop of MP_REACH_NLRI; and the attributes that are kept as they
-- came.
pub record PlacesValue : Type 0 where
  pub withdrawn : List NlriValue
  pub unreachable : List NlriValue
  pub plain : List NlriValue
  pub multi : List NlriValue
  pub told : AttrsValue
  pub hop : List ℕ
  pub others : List OtherValue

-- announcements of IPv4 stand in "Network Layer Reachability Information", unless their next hop is no IPv4 address
abbrev pub is_plain : Family → Option (List ℕ) → Bool
is_plain V4 None = true
is_plain V4 (Some hop) = length hop == 4
is_plain V6 hop = false

-- withdrawals of IPv4 stand in "Withdrawn Routes"
abbrev pub of_v4 : Family → List NlriValue → List NlriValue
of_v4 V4 ns = ns
of_v4 V6 ns = []

abbrev pub of_v6 : Family → List NlriValue → List NlriValue
of_v6 V4 ns = []
of_v6 V6 ns = ns

-- the items where it holds, and none where it doesn't
abbrev pub where_so : {V : Type 0} → Bool → List V → List V
where_so true vs = vs
where_so false vs = []

-- attributes are told where a prefix is announced; NEXT_HOP, where one is in "Network Layer Reachability Information"
abbrev pub told_of : Bool → List NlriValue → AttrsValue → AttrsValue
told_of plain [] attrs = no_attributes
told_of plain (n ∷ ns) attrs = with_hop plain attrs

abbrev pub others_of : List NlriValue → AttrsValue → List OtherValue
others_of [] attrs = []
others_of (n ∷ ns) attrs = attrs.others

-- the bytes of a next hop
abbrev pub hop_bytes : Option (List ℕ) → List ℕ
hop_bytes None = []
hop_bytes (Some hop) = hop

abbrev pub places : Family → List NlriValue → List NlriValue → AttrsValue → PlacesValue
places family withdrawn announced attrs = record {
  withdrawn = of_v4 family withdrawn;
  unreachable = of_v6 family withdrawn;
  plain = where_so (is_plain family attrs.hop) announced;
  multi = where_so (not (is_plain family attrs.hop)) announced;
  told = told_of (is_plain family attrs.hop) announced attrs;
  hop = hop_bytes attrs.hop;
  others = others_of announced attrs;
}

-- how many bytes MP_REACH_NLRI and MP_UNREACH_NLRI take, where they are there
abbrev pub reach_size : List ℕ → List NlriValue → ℕ
reach_size hop ns = listed_size (5 + length hop) nlris_size ns

abbrev pub unreach_size : List NlriValue → ℕ
unreach_size ns = listed_size 3 nlris_size ns

-- how many bytes "Path Attributes" take
abbrev pub field_size : PlacesValue → ℕ
field_size p = front_size p.told + (reach_size p.hop p.multi + (unreach_size p.unreachable + others_size p.others))

-- how many bytes the whole message takes
abbrev pub update_size : PlacesValue → ℕ
update_size p = 23 + (nlris_size p.withdrawn + (field_size p + nlris_size p.plain))

-- each path segment has room
abbrev pub AreShort : Option (List SegmentValue) → Type 0
AreShort None = ⊤
AreShort (Some path) = AllByRecursion IsShortSegment path

-- the next hop of MP_REACH_NLRI has room
abbrev pub HasRoom : List NlriValue → List ℕ → Type 0
HasRoom [] hop = ⊤
HasRoom (n ∷ ns) hop = length hop ≤ 255

-- attributes have room for their values
pub record CanTell (told : AttrsValue) : Type 0 where
  pub segments : AreShort told.path
  pub hop : HasHop told.hop
  pub fits : front_size told ≤ 65535

-- an UPDATE message has room for all
pub record CanPlace (p : PlacesValue) : Type 0 where
  pub segments : AreShort p.told.path
  pub next_hop : HasHop p.told.hop
  pub hop : HasRoom p.multi p.hop
  pub fits : update_size p ≤ 65535

-- "Path Attributes", in order of type, and then those that are kept as they came
abbrev pub IsField : Family → PlacesValue → List ℕ → Type 0
IsField family p bytes = Joined (IsFront p.told) (Joined (IsReach family p.hop p.multi) (Joined (IsUnreach family p.unreachable) (AreOthers p.others))) bytes

-- a field after its length
abbrev pub counted : List ℕ → List ℕ
counted field = big_bytes 2 (length field) ++ field

-- a field of some form after its length
pub record IsCountedOf (Is : List ℕ → Type 0) (bytes : List ℕ) : Type 0 where
  pub field : List ℕ
  pub joined : bytes ≡ counted field
  pub is : Is field

-- the whole message
pub record IsUpdateOf (family : Family) (p : PlacesValue) (bytes : List ℕ) : Type 0 where
  pub withdrawn_routes : List ℕ
  pub path_attributes : List ℕ
  pub nlri : List ℕ
  pub is : IsBgpMessage bytes (record { kind = update_type; body = counted withdrawn_routes ++ (counted path_attributes ++ nlri) })
  pub size : length bytes ≡ update_size p
  pub withdrawn_are : AreOwnNlri p.withdrawn withdrawn_routes
  pub attributes_are : IsField family p path_attributes
  pub nlri_are : AreOwnNlri p.plain nlri
