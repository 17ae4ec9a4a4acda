-- The lenient meaning of the body of a message, in our words: as by the RFCs, but routes may be in another form than
-- the agreed one, an UPDATE message with a malformed attribute withdraws (RFC 7606), and the routes of a Loc-RIB may
-- come without a Peer Up.
use Rattle.std.specs.Prelude.{◌≡◌, ℕ, Bool, true, false, not, ◌&&◌, ◌⊎◌, MatchOption, List, [], ◌∷◌, ◌++◌, take, drop, Option, Some, None}
use Rattle.bmp_specs.specs.declared.wire.Family.TheVariants.{V4, V6}
use Rattle.bmp_specs.specs.BgpMessage.{IsBgpMessage, update_type}
use Rattle.bmp_specs.specs.FramedUpdate.{FitsFamily, FramedValue, IsFramed}
use Rattle.bmp_specs.specs.ImpliedPeerUp.{implied_info}
use Rattle.bmp_specs.specs.LenientState.{LenientState, is_untold, nothing_known, opens_for, with_shown, with_told}
use Rattle.bmp_specs.specs.Meaning.{Meaning}
use Rattle.bmp_specs.specs.MessageBody.{MessageType, OfType, id_use, message_type, initiation_message, peer_down_notification, peer_up_notification, route_mirroring, route_monitoring, statistics_report, termination_message, unassigned}
use Rattle.bmp_specs.specs.MessageEffects.{effects_of, strict}
use Rattle.bmp_specs.specs.MessageHead.{IsHead}
use Rattle.bmp_specs.specs.Mirroring.{IsMirroring}
use Rattle.bmp_specs.specs.PeerDownNotification.{IsPeerDown}
use Rattle.bmp_specs.specs.PeerHeader.{HeaderValue, IsHeader, header_size, key_of, view_of}
use Rattle.bmp_specs.specs.PeerUpNotification.{IsPeerUp}
use Rattle.bmp_specs.specs.Statistics.{IsStatistics}
use Rattle.bmp_specs.specs.TreatAsWithdraw.{IsTreatedAsWithdraw}
use Rattle.bmp_specs.specs.Update.{IsUpdate}
use Rattle.bmp_specs.specs.UpdateForms.{FitsWidth, FormsValue, Takes, ids_in, width_in}
use Rattle.bmp_specs.specs.Values.{BgpMessageValue, DownInfoValue, EffectValue, EntryValue, HeadValue, KeyValue, MessageValue, OpensValue, PeerUpValue, StatisticsValue, UpdateValue, mirrored_routes, orphan, passed, peer_down, peer_up, routes, statistics, up, message}

-- the attributes have a value in the width that is taken, and the message is read by it
pub record IsReadInForms (opens : OpensValue) (h : HeaderValue) (body : List ℕ) (f : FramedValue) (last taken : FormsValue) (u : UpdateValue) : Type 0 where
  pub width : Takes (FitsWidth opens h f.path_attributes) last.two_octets taken.two_octets
  pub is : IsUpdate (width_in opens h taken.two_octets) (ids_in taken (id_use opens h)) body u

-- the attributes have a value in no width, and the message withdraws
pub record IsMalformed (opens : OpensValue) (h : HeaderValue) (f : FramedValue) (last taken : FormsValue) (u : UpdateValue) : Type 0 where
  pub none : (two_octets : Bool) → ¬ (FitsWidth opens h f.path_attributes two_octets)
  pub kept : taken.two_octets ≡ last.two_octets
  pub withdraws : IsTreatedAsWithdraw (ids_in taken (id_use opens h)) f u

-- "a BGP UPDATE PDU", and nothing else, in these forms, after one of the same peer and view in the last ones
pub record IsLenientUpdate (opens : OpensValue) (h : HeaderValue) (rest : List ℕ) (last taken : FormsValue) (u : UpdateValue) : Type 0 where
  pub message : BgpMessageValue
  pub is : IsBgpMessage rest message
  pub is_update : message.kind ≡ update_type
  pub framed : FramedValue
  pub frames : IsFramed message.body framed
  pub v4 : Takes (λ bare. FitsFamily framed V4 (not bare && (id_use opens h).v4)) last.bare_v4 taken.bare_v4
  pub v6 : Takes (λ bare. FitsFamily framed V6 (not bare && (id_use opens h).v6)) last.bare_v6 taken.bare_v6
  pub routes : IsReadInForms opens h message.body framed last taken u ⊎ IsMalformed opens h framed last taken u

-- the Up of a peer that isn't up yet
abbrev pub implied_up : Option OpensValue → KeyValue → HeaderValue → List EffectValue
implied_up None key h = up key (implied_info h) ∷ []
implied_up (Some opens) key h = []

-- routes that are read
pub record TellsRoutes (state : LenientState) (opens : OpensValue) (h : HeaderValue) (key : KeyValue) (rest : List ℕ) (effects : List EffectValue) (next : LenientState) : Type 0 where
  pub taken : FormsValue
  pub update : UpdateValue
  pub is : IsLenientUpdate opens h rest (state.shown key (view_of h)) taken update
  pub effects_are : effects ≡ implied_up (state.opens key) key h ++ effects_of (routes key (view_of h) update)
  pub next_is : next ≡ with_shown state key (view_of h) opens taken

-- what isn't read, of a peer that isn't known
pub record IsOrphan (state : LenientState) (effects : List EffectValue) (next : LenientState) : Type 0 where
  pub effects_are : effects ≡ orphan ∷ []
  pub next_is : next ≡ state

-- routes of a Loc-RIB that was not told of, which are in no form
pub record IsUnreadable (state : LenientState) (opens : OpensValue) (h : HeaderValue) (key : KeyValue) (rest : List ℕ) (effects : List EffectValue) (next : LenientState) : Type 0 where
  pub untold : is_untold state key ≡ true
  pub none : (taken : FormsValue) (u : UpdateValue) → ¬ (IsLenientUpdate opens h rest (state.shown key (view_of h)) taken u)
  pub orphaned : IsOrphan state effects next

-- statistics that are read
pub record TellsStatistics (state : LenientState) (key : KeyValue) (rest : List ℕ) (effects : List EffectValue) (next : LenientState) : Type 0 where
  pub report : StatisticsValue
  pub is : IsStatistics rest report
  pub effects_are : effects ≡ effects_of (statistics key report)
  pub next_is : next ≡ state

-- statistics of a Loc-RIB that was not told of, which are none
pub record IsNoReport (state : LenientState) (key : KeyValue) (rest : List ℕ) (effects : List EffectValue) (next : LenientState) : Type 0 where
  pub untold : is_untold state key ≡ true
  pub none : (report : StatisticsValue) → ¬ (IsStatistics rest report)
  pub orphaned : IsOrphan state effects next

-- a message of one peer, with what follows its Per-Peer Header
abbrev pub OfPeerLeniently : MessageType → LenientState → HeaderValue → KeyValue → List ℕ → List EffectValue → LenientState → Type 0
OfPeerLeniently route_monitoring state h key rest effects next =
    MatchOption (opens_for state h key) (IsOrphan state effects next)
    (λ opens. TellsRoutes state opens h key rest effects next ⊎ IsUnreadable state opens h key rest effects next)
OfPeerLeniently statistics_report state h key rest effects next =
    MatchOption (state.opens key) (IsOrphan state effects next)
    (λ opens. TellsStatistics state key rest effects next ⊎ IsNoReport state key rest effects next)
OfPeerLeniently peer_down_notification state h key rest effects next =
    (d : DownInfoValue) × IsPeerDown rest d × (effects ≡ effects_of (peer_down key d)) × (next ≡ with_told state key None)
OfPeerLeniently peer_up_notification state h key rest effects next =
    (u : PeerUpValue) × IsPeerUp h rest u × (effects ≡ effects_of (peer_up key u)) × (next ≡ with_told state key (Some (record { sent = u.info.sent; received = u.info.received })))
OfPeerLeniently route_mirroring state h key rest effects next =
    (unread : ℕ) × IsMirroring rest unread × (effects ≡ effects_of (mirrored_routes unread)) × (next ≡ state)
OfPeerLeniently initiation_message state h key rest effects next = ⊥
OfPeerLeniently termination_message state h key rest effects next = ⊥
OfPeerLeniently unassigned state h key rest effects next = ⊥

-- a message with a Per-Peer Header; of a peer type that isn't known nothing after the header is read
pub record HasPeerLeniently (kind : MessageType) (state : LenientState) (body : List ℕ) (effects : List EffectValue) (next : LenientState) : Type 0 where
  pub header : HeaderValue
  pub is : IsHeader (take header_size body) header
  pub means : MatchOption (key_of header) ((effects ≡ passed ∷ []) × (next ≡ state)) (λ key. OfPeerLeniently kind state header key (drop header_size body) effects next)

-- a message without one, as by the RFCs
pub record IsAsStrict (kind : MessageType) (state : LenientState) (body : List ℕ) (effects : List EffectValue) (next : LenientState) : Type 0 where
  pub value : MessageValue
  pub means : OfType kind state.opens body value state.opens
  pub effects_are : effects ≡ effects_of value
  pub next_is : next ≡ state

abbrev pub OfTypeLeniently : MessageType → LenientState → List ℕ → List EffectValue → LenientState → Type 0
OfTypeLeniently initiation_message state body effects next = IsAsStrict initiation_message state body effects next
OfTypeLeniently termination_message state body effects next = IsAsStrict termination_message state body effects next
OfTypeLeniently unassigned state body effects next = IsAsStrict unassigned state body effects next
OfTypeLeniently route_monitoring state body effects next = HasPeerLeniently route_monitoring state body effects next
OfTypeLeniently statistics_report state body effects next = HasPeerLeniently statistics_report state body effects next
OfTypeLeniently peer_down_notification state body effects next = HasPeerLeniently peer_down_notification state body effects next
OfTypeLeniently peer_up_notification state body effects next = HasPeerLeniently peer_up_notification state body effects next
OfTypeLeniently route_mirroring state body effects next = HasPeerLeniently route_mirroring state body effects next

-- the entry of a message, as in the strict reading
pub record IsLenientEntry (state : LenientState) (kind : ℕ) (body : List ℕ) (entry : EntryValue) (next : LenientState) : Type 0 where
  pub effects : List EffectValue
  pub means : OfTypeLeniently (message_type kind) state body effects next
  pub head : HeadValue
  pub is_head : IsHead kind body effects head
  pub entry_is : entry ≡ message head effects

-- the meaning of bodies as routers send them
abbrev pub lenient : Meaning
lenient = record { State = LenientState; start = nothing_known; Means = IsLenientEntry }

-- the meaning in which a stream is read: leniently or by the RFCs alone
abbrev pub meaning_of : Bool → Meaning
meaning_of true = lenient
meaning_of false = strict
