-- The head of a message in the history of a lane: its type, its length, what its Per-Peer Header tells beside the peer and the RIB
-- (RFC 7854, section 4.2), and the families of an UPDATE message that were passed over (RFC 4760).
use Rattle.std.specs.Prelude.{◌≡◌, ℕ, ◌+◌, Bool, true, false, nat_lt, List, [], ◌∷◌, ◌++◌, length, take, drop, sum_by, Option, Some, None, is_none, if◌then◌else◌}
use Rattle.bmp_specs.specs.AddressFamily.{unicast_family}
use Rattle.bmp_specs.specs.BgpMessage.{IsBgpMessage, update_type}
use Rattle.bmp_specs.specs.Counts.{parts_in}
use Rattle.bmp_specs.specs.Frame.{least}
use Rattle.bmp_specs.specs.FramedUpdate.{FramedValue, IsFramed}
use Rattle.bmp_specs.specs.MessageBody.{MessageType, message_type, initiation_message, peer_down_notification, peer_up_notification, route_mirroring, route_monitoring, statistics_report, termination_message, unassigned}
use Rattle.bmp_specs.specs.PeerHeader.{HeaderValue, IsHeader, header_size}
use Rattle.bmp_specs.specs.Values.{BgpMessageValue, EffectValue, FamilyCodeValue, HeadValue, MpValue, PeerHeadValue}

-- what a Per-Peer Header tells beside the peer and the RIB
abbrev pub peer_head : HeaderValue → PeerHeadValue
peer_head h = record { asn = h.asn; identifier = h.identifier; seconds = h.seconds; micros = h.micros }

-- what the Per-Peer Header at the front of a body tells
pub record HasPeerHead (body : List ℕ) (told : Option PeerHeadValue) : Type 0 where
  pub header : HeaderValue
  pub is : IsHeader (take header_size body) header
  pub told_is : told ≡ Some (peer_head header)

-- the same by the type of the message: messages of a peer have the header, others have none
abbrev pub IsPeerHead : MessageType → List ℕ → Option PeerHeadValue → Type 0
IsPeerHead route_monitoring body told = HasPeerHead body told
IsPeerHead statistics_report body told = HasPeerHead body told
IsPeerHead peer_down_notification body told = HasPeerHead body told
IsPeerHead peer_up_notification body told = HasPeerHead body told
IsPeerHead route_mirroring body told = HasPeerHead body told
IsPeerHead initiation_message body told = told ≡ None
IsPeerHead termination_message body told = told ≡ None
IsPeerHead unassigned body told = told ≡ None

-- the family of a multiprotocol attribute, where it is passed over
abbrev pub other_in : Option MpValue → List FamilyCodeValue
other_in None = []
other_in (Some m) = if is_none (unicast_family m.afi m.safi) then record { afi = m.afi; safi = m.safi } ∷ [] else []

-- the bytes are an UPDATE message, and these are the families of its MP_REACH_NLRI and its MP_UNREACH_NLRI that are
-- passed over
pub record HasOthers (rest : List ℕ) (others : List FamilyCodeValue) : Type 0 where
  pub update : BgpMessageValue
  pub is : IsBgpMessage rest update
  pub is_update : update.kind ≡ update_type
  pub framed : FramedValue
  pub frames : IsFramed update.body framed
  pub others_are : others ≡ other_in framed.reach ++ other_in framed.unreach

-- an UPDATE message was read, and parts of it were passed over
abbrev pub passes_parts : MessageType → List EffectValue → Bool
passes_parts route_monitoring effects = nat_lt 0 (sum_by parts_in effects)
passes_parts _ effects = false

-- the families that were passed over, none where nothing was
abbrev pub AreOthers : Bool → List ℕ → List FamilyCodeValue → Type 0
AreOthers true rest others = HasOthers rest others
AreOthers false rest others = others ≡ []

-- the head of the message of this type with this body, which has these effects
pub record IsHead (kind : ℕ) (body : List ℕ) (effects : List EffectValue) (head : HeadValue) : Type 0 where
  pub kind_is : head.kind ≡ kind
  pub size_is : head.size ≡ least + length body
  pub peer_is : IsPeerHead (message_type kind) body head.peer
  pub others_are : AreOthers (passes_parts (message_type kind) effects) (drop header_size body) head.others

-- a head of this type and length that tells nothing else
abbrev pub plain_head : ℕ → ℕ → HeadValue
plain_head kind size = record { kind = kind; size = size; peer = None; others = [] }
