-- What a message means by its type and its Per-Peer Header, over what one of each peer means.
use Rattle.std.specs.Prelude.{◌≡◌, ◌↔◌, ℕ, MatchOption, List, [], ◌∷◌, take, drop}
use Rattle.bmp_specs.specs.Initiation.{IsInitiation}
use Rattle.bmp_specs.specs.LenientBody.{OfPeerLeniently}
use Rattle.bmp_specs.specs.LenientState.{LenientState}
use Rattle.bmp_specs.specs.MessageBody.{MessageType, OfPeer as OfPeerStrictly, ReadingState, route_mirroring}
use Rattle.bmp_specs.specs.MessageEffects.{effects_of}
use Rattle.bmp_specs.specs.Mirroring.{IsMirroring}
use Rattle.bmp_specs.specs.PeerHeader.{HeaderValue, IsHeader, header_size, key_of}
use Rattle.bmp_specs.specs.Termination.{IsTermination}
use Rattle.bmp_specs.specs.Values.{EffectValue, InitiationValue, KeyValue, initiation, mirrored_routes, passed, termination}
use Rattle.bmp_message.specs.Effects.{HasEffects}
use Rattle.bmp_message.specs.Types.{message_type_of}
use Rattle.bmp_message.specs.declared.types.MessageType.{MessageType as MessageTypeCode}
use Rattle.bmp_message.specs.declared.types.MessageType.TheVariants.{OfPeer, Initiation, Termination, Unknown}

pub record PeerMeaning : Type 1 where
  -- what is known of a stream from its messages so far
  pub State : Type 0
  -- under the state a message of this type and peer, with these bytes after its Per-Peer Header, has these effects, and
  -- leaves this state
  pub Means : MessageType → State → HeaderValue → KeyValue → List ℕ → List EffectValue → State → Type 0

-- a message with a Per-Peer Header; of a peer type that isn't known nothing after the header is read
pub record HasPeerBy (meaning : PeerMeaning) (kind : MessageType) (state : meaning.State) (body : List ℕ) (effects : List EffectValue) (next : meaning.State) : Type 0 where
  pub header : HeaderValue
  pub is : IsHeader (take header_size body) header
  pub means : MatchOption (key_of header) ((effects ≡ passed ∷ []) × (next ≡ state)) (λ key. meaning.Means kind state header key (drop header_size body) effects next)

-- any message
abbrev pub OfTypeBy : (meaning : PeerMeaning) → MessageTypeCode → meaning.State → List ℕ → List EffectValue → meaning.State → Type 0
OfTypeBy meaning (OfPeer kind) state body effects next = HasPeerBy meaning (message_type_of kind) state body effects next
OfTypeBy meaning Initiation state body effects next = ((i : InitiationValue) × IsInitiation body i × (effects ≡ effects_of (initiation i))) × (next ≡ state)
OfTypeBy meaning Termination state body effects next = (IsTermination body × (effects ≡ effects_of termination)) × (next ≡ state)
OfTypeBy meaning Unknown state body effects next = (effects ≡ passed ∷ []) × (next ≡ state)

-- a Route Mirroring message has the same effects whatever is known
abbrev pub MirrorsRoutes : PeerMeaning → Type 0
MirrorsRoutes meaning = (state next : meaning.State) (h : HeaderValue) (key : KeyValue) (rest : List ℕ) (effects : List EffectValue)
    → meaning.Means route_mirroring state h key rest effects next ↔ (((n : ℕ) × IsMirroring rest n × (effects ≡ effects_of (mirrored_routes n))) × (next ≡ state))

-- the meaning by the RFCs alone
abbrev pub strict_peers : PeerMeaning
strict_peers = record { State = ReadingState; Means = λ kind state h key rest effects next. HasEffects (OfPeerStrictly kind state h key rest) effects next }

-- the meaning as routers send them
abbrev pub lenient_peers : PeerMeaning
lenient_peers = record { State = LenientState; Means = λ kind state h key rest effects next. OfPeerLeniently kind state h key rest effects next }
