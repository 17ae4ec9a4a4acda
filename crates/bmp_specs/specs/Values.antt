-- The values that the wire carries, without their place in memory.
use Rattle.std.specs.Prelude.{ℕ, Bool, List, Option}
use Rattle.bmp_specs.specs.declared.wire.Family.{Family}
use Rattle.bmp_specs.specs.declared.wire.SegmentKind.{SegmentKind}
use Rattle.bmp_specs.specs.declared.peers.View.{View}
use Rattle.bmp_specs.specs.declared.peers.Detail.{Detail}
use Rattle.bmp_specs.specs.declared.causes.Cause.{Cause}

-- an address: 16 bytes, of which IPv4 uses the first four and the rest are zero
pub record AddressValue : Type 0 where
  pub family : Family
  pub octets : List ℕ

-- an address and how many of its bits count
pub record PrefixValue : Type 0 where
  pub address : AddressValue
  pub bits : ℕ

-- a prefix and its path identifier, where it has one (RFC 7911, section 3)
pub record NlriValue : Type 0 where
  pub prefix : PrefixValue
  pub id : Option ℕ

-- an AS path segment (RFC 4271, section 4.3)
pub record SegmentValue : Type 0 where
  pub kind : SegmentKind
  pub numbers : List ℕ

-- AGGREGATOR (RFC 4271, section 5.1.7): the AS, and four bytes of its speaker
pub record AggregatorValue : Type 0 where
  pub asn : ℕ
  pub identifier : List ℕ

-- an attribute that is kept as it came (RFC 4271, section 5)
pub record OtherValue : Type 0 where
  pub flags : ℕ
  pub code : ℕ
  pub value : List ℕ

-- the path attributes of a route (RFC 4271, section 5)
pub record AttrsValue : Type 0 where
  pub origin : Option ℕ
  pub path : Option (List SegmentValue)
  pub hop : Option (List ℕ)
  pub med : Option ℕ
  pub pref : Option ℕ
  pub atomic : Bool
  pub aggregator : Option AggregatorValue
  pub communities : List ℕ
  pub others : List OtherValue

-- one entry of a capability: a family, and what the OPEN says of it
pub record CapValue : Type 0 where
  pub afi : ℕ
  pub safi : ℕ
  pub value : ℕ

-- a code and its value: an optional parameter of an OPEN message, or a capability
pub record CodedValue : Type 0 where
  pub code : ℕ
  pub value : List ℕ

-- a BGP message: its type and its body (RFC 4271, section 4.1)
pub record BgpMessageValue : Type 0 where
  pub kind : ℕ
  pub body : List ℕ

-- an information TLV (RFC 7854, section 4.4)
pub record TlvValue : Type 0 where
  pub kind : ℕ
  pub value : List ℕ

-- an OPEN message (RFC 4271, section 4.2)
pub record OpenValue : Type 0 where
  pub version : ℕ
  pub my_as : ℕ
  pub hold : ℕ
  pub identifier : List ℕ
  pub four : Option ℕ
  pub families : List CapValue
  pub paths : List CapValue
  pub extended : Bool

-- a peer: its type, its distinguisher and its address (RFC 7854, section 4.2)
pub record KeyValue : Type 0 where
  pub kind : ℕ
  pub distinguisher : ℕ
  pub address : AddressValue

-- what a Peer Up Notification tells of a peer (RFC 7854, section 4.10; RFC 9069, section 5.2)
pub record PeerInfoValue : Type 0 where
  pub asn : ℕ
  pub identifier : List ℕ
  pub local : AddressValue
  pub local_port : ℕ
  pub remote_port : ℕ
  pub sent : OpenValue
  pub received : OpenValue
  pub filtered : Bool
  pub table : Option (List ℕ)

-- what a Peer Down Notification tells (RFC 7854, section 4.9)
pub record DownInfoValue : Type 0 where
  pub reason : ℕ
  pub detail : Detail

-- an Initiation: the last sysName and the last sysDescr, and how many TLVs were passed over (RFC 7854, section 4.3)
pub record InitiationValue : Type 0 where
  pub name : Option (List ℕ)
  pub descr : Option (List ℕ)
  pub unread : ℕ

-- a Peer Up Notification, and how many TLVs were passed over (RFC 7854, section 4.10)
pub record PeerUpValue : Type 0 where
  pub info : PeerInfoValue
  pub unread : ℕ

-- a statistic (RFC 7854, section 4.8); afi and safi are 0 where it has no family
pub record StatValue : Type 0 where
  pub code : ℕ
  pub afi : ℕ
  pub safi : ℕ
  pub value : ℕ

-- a Statistics Report, and how many TLVs were passed over (RFC 7854, section 4.8)
pub record StatisticsValue : Type 0 where
  pub stats : List StatValue
  pub unread : ℕ

-- MP_REACH_NLRI or MP_UNREACH_NLRI (RFC 4760, sections 3 and 4), its prefixes as bytes; a withdrawal has no hop
pub record MpValue : Type 0 where
  pub afi : ℕ
  pub safi : ℕ
  pub hop : List ℕ
  pub prefixes : List ℕ

-- a field of path attributes: those of the route, the multiprotocol ones, and how many attributes stood there
pub record AttrsReadValue : Type 0 where
  pub attrs : AttrsValue
  pub reach : Option MpValue
  pub unreach : Option MpValue
  pub count : ℕ

-- an UPDATE message (RFC 4271, section 4.3), and how many multiprotocol attributes of other families it has
pub record UpdateValue : Type 0 where
  pub withdrawn : List NlriValue
  pub plain : List NlriValue
  pub plain_attrs : AttrsValue
  pub multi : List NlriValue
  pub multi_attrs : AttrsValue
  pub mark : Option Family
  pub unread : ℕ

-- the two OPEN messages of a session: the one that the router sent, and the one that it received
pub record OpensValue : Type 0 where
  pub sent : OpenValue
  pub received : OpenValue

-- what a message means
pub data MessageValue : Type 0 where
  initiation : InitiationValue → MessageValue
  termination : MessageValue
  peer_up : KeyValue → PeerUpValue → MessageValue
  peer_down : KeyValue → DownInfoValue → MessageValue
  routes : KeyValue → View → UpdateValue → MessageValue
  statistics : KeyValue → StatisticsValue → MessageValue
  mirrored_routes : ℕ → MessageValue
  of_unknown_peer : MessageValue
  of_unknown_type : MessageValue

-- what a message does to the tables
pub data EffectValue : Type 0 where
  up : KeyValue → PeerInfoValue → EffectValue
  down : KeyValue → DownInfoValue → EffectValue
  announce : KeyValue → View → NlriValue → AttrsValue → EffectValue
  withdraw : KeyValue → View → NlriValue → EffectValue
  mark : KeyValue → View → Family → EffectValue
  statistic : KeyValue → StatValue → EffectValue
  named : List ℕ → EffectValue
  described : List ℕ → EffectValue
  orphan : EffectValue
  mirrored : EffectValue
  passed : EffectValue
  unread : ℕ → EffectValue

-- an address and a port of TCP
pub record EndpointValue : Type 0 where
  pub address : AddressValue
  pub port : ℕ

-- the opening of a connection: from where it came, and when by the station's clock, in seconds since 1970; none where
-- that isn't told
pub record OpeningValue : Type 0 where
  pub from : Option EndpointValue
  pub since : Option ℕ

-- the closing of a connection: its cause, and when by the station's clock, in seconds since 1970; none where that isn't told
pub record ClosingValue : Type 0 where
  pub cause : Cause
  pub until : Option ℕ

-- what a Per-Peer Header tells beside the peer and the RIB: "Peer AS", "Peer BGP ID" and "Timestamp" (RFC 7854, section 4.2)
pub record PeerHeadValue : Type 0 where
  pub asn : ℕ
  pub identifier : List ℕ
  pub seconds : ℕ
  pub micros : ℕ

-- an address family by its numbers on the wire (RFC 4760, section 3)
pub record FamilyCodeValue : Type 0 where
  pub afi : ℕ
  pub safi : ℕ

-- a message without its effects: its type, its length, what its Per-Peer Header tells, and the families that were passed over
pub record HeadValue : Type 0 where
  pub kind : ℕ
  pub size : ℕ
  pub peer : Option PeerHeadValue
  pub others : List FamilyCodeValue

-- an entry of a lane: a connection opened, a message with these effects, or a connection closed
pub data EntryValue : Type 0 where
  opened : OpeningValue → EntryValue
  message : HeadValue → List EffectValue → EntryValue
  closed : ClosingValue → EntryValue

-- a step of a lane: an entry, or one effect of it, without what it tells of a peer
pub data StepValue : Type 0 where
  opened_step : StepValue
  closed_step : Cause → StepValue
  up_step : KeyValue → StepValue
  down_step : KeyValue → StepValue
  announce_step : KeyValue → View → NlriValue → AttrsValue → StepValue
  withdraw_step : KeyValue → View → NlriValue → StepValue
