-- A Peer Up Notification, as it is written (RFC 7854, section 4.10; for a Loc-RIB RFC 9069, sections 4.2 and 5.2).
use Rattle.std.specs.Prelude.{◌≡◌, ℕ, ◌≤◌, ◌<◌, ◌+◌, ◌==◌, false, Bool, List, [], ◌∷◌, ◌++◌, length, take, drop, if◌then◌else◌, MatchBool, Option, Some, None}
use Rattle.byteorder.specs.Endian.{big_bytes}
use Rattle.bmp_specs.specs.declared.wire.Family.TheVariants.{V4}
use Rattle.bmp_specs.specs.Frame.{IsFrame, least}
use Rattle.bmp_specs.specs.Open.{IsOpen}
use Rattle.bmp_specs.specs.PeerHeader.{HeaderValue, IsHeader, address_in, header_size, key_of, loc_rib}
use Rattle.bmp_specs.specs.PeerUpNotification.{f_flag, table_name}
use Rattle.bmp_specs.specs.Tlv.{AreTlvs}
use Rattle.bmp_specs.specs.Values.{KeyValue, OpenValue, PeerInfoValue, TlvValue}
use Rattle.bmp_writer.specs.Capabilities.{capabilities_size}
use Rattle.bmp_writer.specs.OpenMessage.{IsOpenOf, open_size}
use Rattle.bmp_writer.specs.PeerMessage.{address_bytes, family_flag}
use Rattle.bmp_writer.specs.Written.{peer_up_type}

-- how many bytes a table name has, where there is one
abbrev pub name_size : Option (List ℕ) → ℕ
name_size None = 0
name_size (Some name) = length name

-- What a Peer Up Notification can carry: the capabilities of each OPEN message fit in one optional parameter, the local
-- address has the family of the peer's, and only a Loc-RIB Instance Peer is filtered or has a table name.
pub record CanCarry (key : KeyValue) (info : PeerInfoValue) : Type 0 where
  pub known : key.kind ≤ loc_rib
  pub sent : capabilities_size info.sent ≤ 253
  pub received : capabilities_size info.received ≤ 253
  pub local : info.local.family ≡ key.address.family
  pub instance : MatchBool (key.kind == loc_rib) ((key.address.family ≡ V4) × (name_size info.table ≤ 65535)) ((info.filtered ≡ false) × (info.table ≡ None))

-- some body is read as this OPEN message
pub record IsSome (o : OpenValue) : Type 0 where
  pub body : List ℕ
  pub is : IsOpen body o

-- the OPEN message, without extended parameters (RFC 9072, section 2)
abbrev pub unextended : OpenValue → OpenValue
unextended o = record o { extended = false }

-- what is told of the peer, without those
abbrev pub with_unextended : PeerInfoValue → PeerInfoValue
with_unextended info = record info { sent = unextended info.sent; received = unextended info.received }

-- "Peer Flags": the F flag of a Loc-RIB Instance Peer, and the V flag of any other
abbrev pub up_flags : KeyValue → Bool → ℕ
up_flags key filtered = if key.kind == loc_rib then (if filtered then f_flag else 0) else family_flag key.address.family

-- a Per-Peer Header that names the peer, its AS and its BGP Identifier, and neither a view nor a time
pub record IsUpHeader (key : KeyValue) (info : PeerInfoValue) (bytes : List ℕ) : Type 0 where
  pub header : HeaderValue
  pub is : IsHeader bytes header
  pub len : length bytes ≡ header_size
  pub key_is : key_of header ≡ Some key
  pub kind_is : header.kind ≡ key.kind
  pub flags_are : header.flags ≡ up_flags key info.filtered
  pub address_is : header.address ≡ address_bytes key.address
  pub asn_is : header.asn ≡ info.asn
  pub identifier_is : header.identifier ≡ info.identifier
  pub no_seconds : header.seconds ≡ 0
  pub no_micros : header.micros ≡ 0

-- "Local Address", "Local Port" and "Remote Port"
pub record IsLocal (info : PeerInfoValue) (bytes : List ℕ) : Type 0 where
  pub address : List ℕ
  pub len : length address ≡ 16
  pub same : address_in info.local.family address ≡ info.local
  pub exact : address ≡ address_bytes info.local
  pub local : info.local_port < 65536
  pub remote : info.remote_port < 65536
  pub is : bytes ≡ address ++ (big_bytes 2 info.local_port ++ big_bytes 2 info.remote_port)

-- the table name, where there is one
abbrev pub name_tlvs : Option (List ℕ) → List TlvValue
name_tlvs None = []
name_tlvs (Some name) = record { kind = table_name; value = name } ∷ []

abbrev pub name_tlvs_size : Option (List ℕ) → ℕ
name_tlvs_size None = 0
name_tlvs_size (Some name) = 4 + length name

-- "Information": a TLV of the table name, where there is one
pub record IsTable (table : Option (List ℕ)) (bytes : List ℕ) : Type 0 where
  pub are : AreTlvs bytes (name_tlvs table)
  pub size : length bytes ≡ name_tlvs_size table

-- how many bytes the whole message has
abbrev pub peer_up_size : PeerInfoValue → ℕ
peer_up_size info = 68 + (open_size info.sent + (open_size info.received + name_tlvs_size info.table))

-- a whole Peer Up Notification of these parts
pub record IsUpMessage (key : KeyValue) (info : PeerInfoValue) (bytes : List ℕ) : Type 0 where
  pub head : List ℕ
  pub local : List ℕ
  pub sent : List ℕ
  pub received : List ℕ
  pub table : List ℕ
  pub is : IsFrame bytes peer_up_type (head ++ (local ++ (sent ++ (received ++ table))))
  pub head_is : IsUpHeader key info head
  pub local_is : IsLocal info local
  pub sent_is : IsOpenOf info.sent sent
  pub received_is : IsOpenOf info.received received
  pub table_is : IsTable info.table table

-- a message with such a header
pub record HasUpHeader (key : KeyValue) (info : PeerInfoValue) (bytes : List ℕ) : Type 0 where
  pub is : IsUpHeader key info (take header_size (drop least bytes))
