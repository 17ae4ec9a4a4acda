-- What bytes that were written are: one whole message, and what it does to the tables of whoever reads it.
use Rattle.std.specs.Prelude.{◌≡◌, ℕ, List, [], ◌∷◌, ◌++◌, length, take, drop, Some, None, ⊤}
use Rattle.bmp_specs.specs.declared.wire.Family.{Family}
use Rattle.bmp_specs.specs.declared.wire.Family.TheVariants.{V4, V6}
use Rattle.bmp_specs.specs.Frame.{IsFrame, least}
use Rattle.bmp_specs.specs.Initiation.{sys_descr, sys_name}
use Rattle.bmp_specs.specs.MessageBody.{ReadingState, with_peer}
use Rattle.bmp_specs.specs.MessageEffects.{IsMessageEntry}
use Rattle.bmp_specs.specs.Tlv.{AreTlvs}
use Rattle.bmp_specs.specs.Values.{EffectValue, HeadValue, KeyValue, OpensValue, message}

-- "Message Type" (RFC 7854, section 4.1)
abbrev pub route_monitoring_type : ℕ
route_monitoring_type = 0

abbrev pub peer_down_type : ℕ
peer_down_type = 2

abbrev pub peer_up_type : ℕ
peer_up_type = 3

abbrev pub initiation_type : ℕ
initiation_type = 4

-- a piece of this form was put after the bytes
abbrev pub Appends : (List ℕ → Type 0) → List ℕ → List ℕ → Type 0
Appends Is old new = (piece : List ℕ) × (new ≡ old ++ piece) × Is piece

-- what stood there stands there still, and after it perhaps more
abbrev pub Keeps : List ℕ → List ℕ → Type 0
Keeps old new = take (length old) new ≡ old

-- A message of this type and length with this body is read so: in this state it has these effects, and the next state follows.
-- What else its head tells is what its bytes tell.
pub record IsReadAs (state : ReadingState) (kind size : ℕ) (body : List ℕ) (effects : List EffectValue) (next : ReadingState) : Type 0 where
  pub head : HeadValue
  pub kind_is : head.kind ≡ kind
  pub size_is : head.size ≡ size
  pub is : IsMessageEntry state kind body (message head effects) next

-- One message of this type. Whoever reads it in a state of this kind reads these effects, in this order and no others, and
-- is then in that state.
pub record IsWritten (kind : ℕ) (Reads : ReadingState → Type 0) (effects : List EffectValue) (after : ReadingState → ReadingState) (bytes : List ℕ) : Type 0 where
  pub body : List ℕ
  pub is : IsFrame bytes kind body
  pub means : (state : ReadingState) → Reads state → IsReadAs state kind (length bytes) body effects (after state)

-- any state
abbrev pub Always : ReadingState → Type 0
Always state = ⊤

-- the peer is up, with whatever OPEN messages
abbrev pub HasUp : KeyValue → ReadingState → Type 0
HasUp key state = (opens : OpensValue) × (state key ≡ Some opens)

-- the same peers are up
abbrev pub unchanged : ReadingState → ReadingState
unchanged state = state

-- the peer is down
abbrev pub without : KeyValue → ReadingState → ReadingState
without key state = with_peer state key None

-- the peer is up, with these OPEN messages
abbrev pub with_opens : KeyValue → OpensValue → ReadingState → ReadingState
with_opens key opens state = with_peer state key (Some opens)

-- an Initiation Message of one sysDescr, one sysName and no other TLV, in this order
abbrev pub HasTold : List ℕ → List ℕ → List ℕ → Type 0
HasTold name descr bytes = AreTlvs (drop least bytes) (record { kind = sys_descr; value = descr } ∷ record { kind = sys_name; value = name } ∷ [])

-- the whole message
pub record IsToldMessage (name descr bytes : List ℕ) : Type 0 where
  pub body : List ℕ
  pub is : IsFrame bytes initiation_type body
  pub told : HasTold name descr bytes

-- how many bytes a message has with the End-of-RIB marker of a family: for IPv4 with the UPDATE that has nothing else, for
-- IPv6 with one that has an MP_UNREACH_NLRI of six bytes
abbrev pub mark_size : Family → ℕ
mark_size V4 = 71
mark_size V6 = 77
