-- A message with a Per-Peer Header, as it is written (RFC 7854, section 4.2).
use Rattle.std.specs.Prelude.{◌≡◌, ℕ, ◌==◌, false, List, [], ◌∷◌, ◌++◌, length, take, drop, if◌then◌else◌, replicate, Some, bit_or}
use Rattle.bmp_specs.specs.declared.peers.View.{View}
use Rattle.bmp_specs.specs.declared.peers.View.TheVariants.{InPre, InPost, OutPre, OutPost, Loc}
use Rattle.bmp_specs.specs.declared.wire.Family.{Family}
use Rattle.bmp_specs.specs.declared.wire.Family.TheVariants.{V4, V6}
use Rattle.bmp_specs.specs.BgpMessage.{marker}
use Rattle.bmp_specs.specs.Frame.{IsFrame, least}
use Rattle.bmp_specs.specs.PeerHeader.{HeaderValue, IsHeader, header_size, is_two_byte, key_of, loc_rib, view_of, v_flag, l_flag, o_flag}
use Rattle.bmp_specs.specs.Values.{AddressValue, KeyValue}

-- the flag of a family
abbrev pub family_flag : Family → ℕ
family_flag V4 = 0
family_flag V6 = v_flag

-- the flags of a view
abbrev pub view_flags : View → ℕ
view_flags InPre = 0
view_flags InPost = l_flag
view_flags OutPre = o_flag
view_flags OutPost = bit_or l_flag o_flag
view_flags Loc = 0

-- "Peer Flags" of a message of the view: a Loc-RIB Instance Peer has neither V nor L nor O (RFC 9069, section 4.2)
abbrev pub header_flags : KeyValue → View → ℕ
header_flags key view = if key.kind == loc_rib then 0 else bit_or (family_flag key.address.family) (view_flags view)

-- an address in 16 bytes: "an IPv4 address is encoded in the last 4 bytes", and the 12 before them are zero
abbrev pub octets_in : Family → List ℕ → List ℕ
octets_in V4 octets = replicate 12 0 ++ take 4 octets
octets_in V6 octets = octets

abbrev pub address_bytes : AddressValue → List ℕ
address_bytes a = octets_in a.family a.octets

-- AS paths have numbers of four bytes, and neither an AS, an identifier nor a time is told
pub record IsPlain (h : HeaderValue) : Type 0 where
  pub four_byte : is_two_byte h ≡ false
  pub no_asn : h.asn ≡ 0
  pub no_identifier : h.identifier ≡ replicate 4 0
  pub no_seconds : h.seconds ≡ 0
  pub no_micros : h.micros ≡ 0

-- a header of this kind stands after the common header
pub record HasPlainHeader (bytes : List ℕ) : Type 0 where
  pub header : HeaderValue
  pub is : IsHeader (take header_size (drop least bytes)) header
  pub plain : IsPlain header

-- a header that names the peer and the view, with no flag but those
pub record IsHeaderOf (key : KeyValue) (view : View) (bytes : List ℕ) : Type 0 where
  pub header : HeaderValue
  pub is : IsHeader bytes header
  pub len : length bytes ≡ header_size
  pub key_is : key_of header ≡ Some key
  pub view_is : view_of header ≡ view
  pub flags_are : header.flags ≡ header_flags key view
  pub address_is : header.address ≡ address_bytes key.address
  pub plain : IsPlain header

-- the UPDATE message of an End-of-RIB marker (RFC 4724, section 2): for IPv4 one that has nothing, for IPv6 one whose only
-- attribute is an MP_UNREACH_NLRI without prefixes
abbrev pub mark_update : Family → List ℕ
mark_update V4 = marker ++ (0 ∷ 23 ∷ 2 ∷ 0 ∷ 0 ∷ 0 ∷ 0 ∷ [])
mark_update V6 = marker ++ (0 ∷ 29 ∷ 2 ∷ 0 ∷ 0 ∷ 0 ∷ 6 ∷ 0x80 ∷ 15 ∷ 3 ∷ 0 ∷ 2 ∷ 1 ∷ [])

-- the view that a Peer Down Notification's header names, with the flags L and O clear
abbrev pub first_view : ℕ → View
first_view kind = if kind == loc_rib then Loc else InPre

-- a whole message of this type with such a header, and with these bytes after it
pub record IsPeerMessage (kind : ℕ) (key : KeyValue) (view : View) (rest bytes : List ℕ) : Type 0 where
  pub head : List ℕ
  pub is : IsFrame bytes kind (head ++ rest)
  pub head_is : IsHeaderOf key view head
