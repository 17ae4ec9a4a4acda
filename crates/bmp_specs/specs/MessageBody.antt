-- What the body of a BMP message means, by its type (RFC 7854, section 4.1) and by which peers are up.
use Rattle.std.specs.Prelude.{◌≡◌, ℕ, ◌==◌, if◌then◌else◌, MatchOption, List, take, drop, Option, Some, None}
use Rattle.std.specs.Ordering.{eq_by_cmp}
use Rattle.bmp_specs.specs.declared.wire.Family.TheVariants.{V4, V6}
use Rattle.bmp_specs.specs.declared.wire.IdUse.{IdUse}
use Rattle.bmp_specs.specs.declared.wire.Side.{Side}
use Rattle.bmp_specs.specs.declared.wire.Side.TheVariants.{Inward, Outward, Local}
use Rattle.bmp_specs.specs.declared.wire.Width.{Width}
use Rattle.bmp_specs.specs.declared.wire.Width.TheVariants.{Two, Four}
use Rattle.bmp_specs.specs.BgpMessage.{IsBgpMessage, update_type}
use Rattle.bmp_specs.specs.Initiation.{IsInitiation}
use Rattle.bmp_specs.specs.Mirroring.{IsMirroring}
use Rattle.bmp_specs.specs.Orders.{key_cmp}
use Rattle.bmp_specs.specs.PathIds.{uses_path_ids}
use Rattle.bmp_specs.specs.PeerDownNotification.{IsPeerDown}
use Rattle.bmp_specs.specs.PeerHeader.{HeaderValue, IsHeader, header_size, key_of, view_of, is_two_byte, is_set, loc_rib, o_flag}
use Rattle.bmp_specs.specs.PeerUpNotification.{IsPeerUp}
use Rattle.bmp_specs.specs.Statistics.{IsStatistics}
use Rattle.bmp_specs.specs.Termination.{IsTermination}
use Rattle.bmp_specs.specs.Update.{IsUpdate}
use Rattle.bmp_specs.specs.Values.{BgpMessageValue, DownInfoValue, InitiationValue, KeyValue, OpensValue, MessageValue, PeerUpValue, StatisticsValue, UpdateValue, initiation, termination, peer_up, peer_down, routes, statistics, mirrored_routes, of_unknown_peer, of_unknown_type}

-- "Message Type (1 byte)"
pub data MessageType : Type 0 where
  route_monitoring : MessageType
  statistics_report : MessageType
  peer_down_notification : MessageType
  peer_up_notification : MessageType
  initiation_message : MessageType
  termination_message : MessageType
  route_mirroring : MessageType
  unassigned : MessageType

abbrev pub message_type : ℕ → MessageType
message_type kind =
    if kind == 0 then route_monitoring else
    if kind == 1 then statistics_report else
    if kind == 2 then peer_down_notification else
    if kind == 3 then peer_up_notification else
    if kind == 4 then initiation_message else
    if kind == 5 then termination_message else
    if kind == 6 then route_mirroring else
    unassigned

-- The reading state: for each peer whose last Peer Up or Peer Down was a Peer Up the two OPEN messages of that one, and
-- nothing for any other peer.
abbrev pub ReadingState : Type 0
ReadingState = KeyValue → Option OpensValue

-- at the start of a connection no peer is up
abbrev pub no_peers : ReadingState
no_peers = λ key. None

-- the state with this peer up with these OPEN messages, or down
abbrev pub with_peer : ReadingState → KeyValue → Option OpensValue → ReadingState
with_peer state key opens = λ k. if eq_by_cmp key_cmp k key then opens else state k

-- the side that a header speaks of: the Loc-RIB, the Adj-RIB-Out (RFC 8671, section 4) or the Adj-RIB-In
abbrev pub side_of : HeaderValue → Side
side_of h = if h.kind == loc_rib then Local else (if is_set o_flag h.flags then Outward else Inward)

-- the width of AS numbers under a header
abbrev pub width_of : HeaderValue → Width
width_of h = if is_two_byte h then Two else Four

-- which families use path identifiers under a header
abbrev pub id_use : OpensValue → HeaderValue → IdUse
id_use opens h = record { v4 = uses_path_ids opens.sent opens.received V4 (side_of h); v6 = uses_path_ids opens.sent opens.received V6 (side_of h) }

-- "a BGP UPDATE PDU", and nothing else (RFC 7854, section 4.6)
pub record IsRouteMonitoring (opens : OpensValue) (h : HeaderValue) (rest : List ℕ) (u : UpdateValue) : Type 0 where
  pub message : BgpMessageValue
  pub is : IsBgpMessage rest message
  pub is_update : message.kind ≡ update_type
  pub body_is : IsUpdate (width_of h) (id_use opens h) message.body u

-- a message of one peer, with what follows its Per-Peer Header; routes and statistics of a peer that isn't up aren't read
abbrev pub OfPeer : MessageType → ReadingState → HeaderValue → KeyValue → List ℕ → MessageValue → ReadingState → Type 0
OfPeer route_monitoring state h key rest m next = (next ≡ state)
    × MatchOption (state key) (m ≡ of_unknown_peer) (λ opens. (u : UpdateValue) × IsRouteMonitoring opens h rest u × (m ≡ routes key (view_of h) u))
OfPeer statistics_report state h key rest m next = (next ≡ state)
    × MatchOption (state key) (m ≡ of_unknown_peer) (λ opens. (s : StatisticsValue) × IsStatistics rest s × (m ≡ statistics key s))
OfPeer peer_down_notification state h key rest m next =
    (d : DownInfoValue) × IsPeerDown rest d × (m ≡ peer_down key d) × (next ≡ with_peer state key None)
OfPeer peer_up_notification state h key rest m next =
    (u : PeerUpValue) × IsPeerUp h rest u × (m ≡ peer_up key u) × (next ≡ with_peer state key (Some (record { sent = u.info.sent; received = u.info.received })))
OfPeer route_mirroring state h key rest m next = (unread : ℕ) × IsMirroring rest unread × (m ≡ mirrored_routes unread) × (next ≡ state)
OfPeer initiation_message state h key rest m next = ⊥
OfPeer termination_message state h key rest m next = ⊥
OfPeer unassigned state h key rest m next = ⊥

-- a message with a Per-Peer Header; of a peer type that isn't known nothing after the header is read
pub record HasPeer (kind : MessageType) (state : ReadingState) (body : List ℕ) (m : MessageValue) (next : ReadingState) : Type 0 where
  pub header : HeaderValue
  pub is : IsHeader (take header_size body) header
  pub means : MatchOption (key_of header) ((m ≡ of_unknown_type) × (next ≡ state)) (λ key. OfPeer kind state header key (drop header_size body) m next)

abbrev pub OfType : MessageType → ReadingState → List ℕ → MessageValue → ReadingState → Type 0
OfType initiation_message state body m next = (i : InitiationValue) × IsInitiation body i × (m ≡ initiation i) × (next ≡ state)
OfType termination_message state body m next = IsTermination body × (m ≡ termination) × (next ≡ state)
OfType unassigned state body m next = (m ≡ of_unknown_type) × (next ≡ state)
OfType route_monitoring state body m next = HasPeer route_monitoring state body m next
OfType statistics_report state body m next = HasPeer statistics_report state body m next
OfType peer_down_notification state body m next = HasPeer peer_down_notification state body m next
OfType peer_up_notification state body m next = HasPeer peer_up_notification state body m next
OfType route_mirroring state body m next = HasPeer route_mirroring state body m next

-- under the state a body of this type means this message, and leaves this state
abbrev pub IsMessage : ReadingState → ℕ → List ℕ → MessageValue → ReadingState → Type 0
IsMessage state kind body m next = OfType (message_type kind) state body m next
