-- What a cutter of messages answers, and what any run of its calls gives (RFC 7854, section 4.1).
use Rattle.std.specs.Prelude.{◌≡◌, ℕ, ◌+◌, ◌-◌, ◌^◌, ◌<◌, ◌≤◌, ◌⊎◌, List, [], ◌∷◌, ◌++◌, length, take, drop}
use Rattle.bmp_specs.specs.declared.causes.Why.TheVariants.{Version, Length, Body}
use Rattle.bmp_specs.specs.Frame.{IsFrame, NeedsMore, BreaksVersion, BreaksLength}
use Rattle.bmp_specs.specs.Parts.{AreParts}
use Rattle.bmp_frames.specs.declared.cutter.Next.{Next}
use Rattle.bmp_frames.specs.declared.cutter.Next.TheVariants.{Frame, More, Bad}

-- what a cutter holds: the bytes that were fed and not given, the length of the messages that were given, and the bytes
-- after the common header of the last of them
pub record CutterValue : Type 0 where
  pub pending : List ℕ
  pub offset : ℕ
  pub body : List ℕ

-- what stands at the front of the bytes
abbrev pub IsAtFront : List ℕ → Next → Type 0
IsAtFront bytes (Frame kind size) = (size ≤ length bytes) × IsFrame (take size bytes) kind (drop 6 (take size bytes))
IsAtFront bytes More = NeedsMore bytes
IsAtFront bytes (Bad Version) = BreaksVersion bytes
IsAtFront bytes (Bad Length) = BreaksLength bytes
IsAtFront bytes (Bad Body) = ⊥

-- a message was given, and all else stays
pub record Gives (old new : CutterValue) (size : ℕ) : Type 0 where
  pub split : old.pending ≡ take size old.pending ++ new.pending
  pub body : new.body ≡ drop 6 (take size old.pending)
  pub offset : new.offset ≡ old.offset + size
  pub shorter : length new.pending < length old.pending

-- how a cutter moves
abbrev pub Moves : CutterValue → CutterValue → Next → Type 0
Moves old new (Frame kind size) = Gives old new size
Moves old new More = new ≡ old
Moves old new (Bad why) = new ≡ old

-- after a refusal the answer stays, whatever comes
abbrev pub StaysBad : List ℕ → Next → Type 0
StaysBad bytes (Frame kind size) = Unit {0}
StaysBad bytes More = Unit {0}
StaysBad bytes (Bad why) = (more : List ℕ) (answer : Next) → IsAtFront (bytes ++ more) answer → answer ≡ Bad why

-- more bytes are pending
abbrev pub with_more : CutterValue → List ℕ → CutterValue
with_more old piece = record old { pending = old.pending ++ piece }

-- a message that was given
pub record MessageValue : Type 0 where
  pub kind : ℕ
  pub body : List ℕ

-- the bytes are this message
abbrev pub IsMessage : List ℕ → MessageValue → Type 0
IsMessage bytes m = IsFrame bytes m.kind m.body

-- the body of the last message, and this one where there is none
abbrev pub last_body : List ℕ → List MessageValue → List ℕ
last_body body [] = body
last_body body (m ∷ ms) = last_body m.body ms

-- A run of calls fed these bytes in all and gave these messages: the bytes are the messages, one after another, and
-- then what is pending.
pub record HasCut (fed : List ℕ) (given : List MessageValue) (c : CutterValue) : Type 0 where
  pub front : List ℕ
  pub split : fed ≡ front ++ c.pending
  pub messages : AreParts IsMessage front given
  pub offset : c.offset ≡ length front
  pub body : c.body ≡ last_body [] given

-- the run goes on with this answer: one more message was given, or the verdict at the offset says why there is none
abbrev pub GoesOn : List ℕ → List MessageValue → CutterValue → Next → Type 0
GoesOn fed given new (Frame kind size) = HasCut fed (given ++ record { kind = kind; body = new.body } ∷ []) new
GoesOn fed given new More = HasCut fed given new × NeedsMore (drop new.offset fed)
GoesOn fed given new (Bad Version) = HasCut fed given new × BreaksVersion (drop new.offset fed)
GoesOn fed given new (Bad Length) = HasCut fed given new × BreaksLength (drop new.offset fed)
GoesOn fed given new (Bad Body) = ⊥

-- What a feed leaves of the front of its buffer: all of it or nothing. What stays before the last body is no longer
-- than what is pending, and what is pending moves only where at least as much is dropped.
pub record Settles (dropped before pending : ℕ) : Type 0 where
  pub held : before - dropped ≤ pending
  pub paid : (dropped ≡ 0) ⊎ ((dropped ≡ before) × (pending ≤ dropped))

-- the last body, then what is pending, in a buffer of this length; what was fed in all has 2^46 bytes at most
pub record FitsBuffer (len body start offset : ℕ) : Type 0 where
  pub order : body ≤ start
  pub within : start ≤ len
  pub bound : offset + (len - start) ≤ 2 ^ 46
