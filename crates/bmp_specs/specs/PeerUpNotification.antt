-- What follows the Per-Peer Header in a Peer Up Notification (RFC 7854, section 4.10; for a Loc-RIB RFC 9069,
-- sections 4.2, 4.4 and 5.2).
use Rattle.std.specs.Prelude.{◌≡◌, ℕ, ◌≤◌, Bool, not, ◌==◌, ◌&&◌, ◌||◌, if◌then◌else◌, List, length, take, drop, Option, None, count_by}
use Rattle.byteorder.specs.Endian.{big_number}
use Rattle.bmp_specs.specs.Sequence.{Then}
use Rattle.bmp_specs.specs.Open.{IsOpenMessage}
use Rattle.bmp_specs.specs.PeerHeader.{HeaderValue, place_of, loc_rib, is_set}
use Rattle.bmp_specs.specs.Tlv.{AreTlvs, last_value}
use Rattle.bmp_specs.specs.Values.{PeerUpValue, TlvValue}

-- "Type = 0: String" (RFC 7854, section 4.4), and "Type = 3: VRF/Table Name" (RFC 9069, section 5.2.1)
abbrev pub string : ℕ
string = 0

abbrev pub table_name : ℕ
table_name = 3

-- "F flag": the Loc-RIB is filtered (RFC 9069, section 4.2)
abbrev pub f_flag : ℕ
f_flag = 0x80

abbrev pub is_loc_rib : HeaderValue → Bool
is_loc_rib h = h.kind == loc_rib

-- the last table name of a Loc-RIB Instance Peer
abbrev pub table_in : HeaderValue → List TlvValue → Option (List ℕ)
table_in h tlvs = if is_loc_rib h then last_value table_name tlvs else None

-- a string, and the table name of a Loc-RIB Instance Peer; any other TLV is passed over
abbrev pub is_known : HeaderValue → TlvValue → Bool
is_known h t = t.kind == string || (is_loc_rib h && t.kind == table_name)

-- "Local Address (16 bytes)", "Local Port (2 bytes)", "Remote Port (2 bytes)", "Sent OPEN Message", "Received OPEN
-- Message" and "Information"
pub record IsPeerUp (h : HeaderValue) (rest : List ℕ) (u : PeerUpValue) : Type 0 where
  pub header : 20 ≤ length rest
  pub local_is : u.info.local ≡ place_of h (take 16 rest)
  pub local_port_is : u.info.local_port ≡ big_number 2 (drop 16 rest)
  pub remote_port_is : u.info.remote_port ≡ big_number 2 (drop 18 rest)
  pub tlvs : List TlvValue
  pub parts : Then IsOpenMessage (Then IsOpenMessage AreTlvs) (drop 20 rest) (u.info.sent, (u.info.received, tlvs))
  pub asn_is : u.info.asn ≡ h.asn
  pub identifier_is : u.info.identifier ≡ h.identifier
  pub filtered_is : u.info.filtered ≡ (is_loc_rib h && is_set f_flag h.flags)
  pub table_is : u.info.table ≡ table_in h tlvs
  pub unread_is : u.unread ≡ count_by (λ t. not (is_known h t)) tlvs
