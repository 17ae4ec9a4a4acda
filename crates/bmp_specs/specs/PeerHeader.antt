-- The Per-Peer Header (RFC 7854, section 4.2; RFC 8671, section 4; RFC 9069, sections 4.1 and 4.2): its fields, the peer
-- that it names, and the RIB that what follows it was seen in.
--
-- The RFCs leave open, and this station chooses: flags that they don't name are ignored, the first twelve bytes of an IPv4
-- address aren't looked at, the flags are no part of the key, and the addresses of a Loc-RIB Instance Peer are IPv4.
use Rattle.std.specs.Prelude.{ℕ, ◌==◌, Bool, false, leb, if◌then◌else◌, List, [], ◌∷◌, drop, Option, Some, None, bit_and, Contains}
use Rattle.bmp_specs.specs.declared.wire.Family.{Family}
use Rattle.bmp_specs.specs.declared.wire.Family.TheVariants.{V4, V6}
use Rattle.bmp_specs.specs.declared.peers.View.{View}
use Rattle.bmp_specs.specs.declared.peers.View.TheVariants.{InPre, InPost, OutPre, OutPost, Loc}
use Rattle.bmp_specs.specs.Number.{IsNumber}
use Rattle.bmp_specs.specs.Prefix.{padded}
use Rattle.bmp_specs.specs.Sequence.{Then, IsField}
use Rattle.bmp_specs.specs.Values.{AddressValue, KeyValue}

-- the fields of a Per-Peer Header, in their order
pub record HeaderValue : Type 0 where
  -- "Peer Type"
  pub kind : ℕ
  -- "Peer Flags"
  pub flags : ℕ
  -- "Peer Distinguisher"
  pub distinguisher : ℕ
  -- "Peer Address", 16 bytes
  pub address : List ℕ
  -- "Peer AS"
  pub asn : ℕ
  -- "Peer BGP ID", 4 bytes
  pub identifier : List ℕ
  -- "Timestamp": seconds, and then microseconds
  pub seconds : ℕ
  pub micros : ℕ

-- how many bytes a Per-Peer Header takes
abbrev pub header_size : ℕ
header_size = 42

-- the bytes are the fields of the header, one after another
abbrev pub IsHeader : List ℕ → HeaderValue → Type 0
IsHeader bytes h =
    Then (IsNumber 1) (Then (IsNumber 1) (Then (IsNumber 8) (Then (IsField 16) (Then (IsNumber 4) (Then (IsField 4) (Then (IsNumber 4) (IsNumber 4))))))) bytes
    (h.kind, (h.flags, (h.distinguisher, (h.address, (h.asn, (h.identifier, (h.seconds, h.micros)))))))

-- the last Peer Type that is known: "Loc-RIB Instance Peer" (RFC 9069, section 4.1); 0 to 2 are the Global, the RD and the
-- Local Instance Peer
abbrev pub loc_rib : ℕ
loc_rib = 3

-- "V flag": the Peer Address is an IPv6 address
abbrev pub v_flag : ℕ
v_flag = 0x80

-- "L flag": the message reflects the RIB after the policy
abbrev pub l_flag : ℕ
l_flag = 0x40

-- "A flag": the AS_PATH is in the two-byte form
abbrev pub a_flag : ℕ
a_flag = 0x20

-- "O flag": the message reflects the Adj-RIB-Out (RFC 8671, section 4)
abbrev pub o_flag : ℕ
o_flag = 0x10

-- the flag stands among the flags
abbrev pub is_set : ℕ → ℕ → Bool
is_set flag flags = bit_and flags flag == flag

-- the address of a family that stands in 16 bytes: IPv4 in the last four of them
abbrev pub address_in : Family → List ℕ → AddressValue
address_in V4 raw = record { family = V4; octets = padded (drop 12 raw) }
address_in V6 raw = record { family = V6; octets = raw }

-- the family of the peer's address, and of the local one
abbrev pub family_of : HeaderValue → Family
family_of h = if h.kind == loc_rib then V4 else (if is_set v_flag h.flags then V6 else V4)

-- the address that stands in 16 bytes of a message with this header
abbrev pub place_of : HeaderValue → List ℕ → AddressValue
place_of h raw = address_in (family_of h) raw

-- the peer: its type, its distinguisher and its address, and none where the type isn't known
abbrev pub key_of : HeaderValue → Option KeyValue
key_of h = if leb h.kind loc_rib then Some (record { kind = h.kind; distinguisher = h.distinguisher; address = place_of h h.address }) else None

-- the RIB that the message reflects
abbrev pub view_of : HeaderValue → View
view_of h =
    if h.kind == loc_rib then Loc else
    (if is_set o_flag h.flags then (if is_set l_flag h.flags then OutPost else OutPre) else (if is_set l_flag h.flags then InPost else InPre))

-- AS paths have numbers of two bytes; those of a Loc-RIB have four in any case
abbrev pub is_two_byte : HeaderValue → Bool
is_two_byte h = if h.kind == loc_rib then false else is_set a_flag h.flags

-- the views that a peer has: the Loc-RIB alone, or Adj-RIB-In and Adj-RIB-Out, each before and after policy
abbrev pub views_of_key : KeyValue → List View
views_of_key key = if key.kind == loc_rib then Loc ∷ [] else InPre ∷ InPost ∷ OutPre ∷ OutPost ∷ []

-- the view is one of the peer's
abbrev pub IsViewOf : KeyValue → View → Type 0
IsViewOf key view = Contains (views_of_key key) view
