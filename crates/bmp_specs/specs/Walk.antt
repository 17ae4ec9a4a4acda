-- The one way to cut a stream into messages (RFC 7854, section 4.1) and a rest. The verdicts are ours.
use Rattle.std.specs.Prelude.{◌≡◌, ℕ, ◌+◌, ◌<◌, ◌==◌, List, [], ◌∷◌, ◌++◌, length, MatchBool}
use Rattle.bmp_specs.specs.declared.causes.Why.{Why}
use Rattle.bmp_specs.specs.declared.causes.Why.TheVariants.{Version, Length, Body}
use Rattle.bmp_specs.specs.Frame.{IsFrame, NeedsMore, BreaksVersion, BreaksLength}

-- how a walk ended
pub data Verdict : Type 0 where
  whole : Verdict
  more : Verdict
  terminated : Verdict
  broken : Why → Verdict

-- the kind of the message after which nothing is read
abbrev pub termination : ℕ
termination = 5

-- A message at the front of the bytes. Is s kind body m t says that under the state s a body of this kind means m and leaves the state t.
pub record Step {S M : Type 0} (Is : S → ℕ → List ℕ → M → S → Type 0) (s : S) (bytes : List ℕ) (m : M) : Type 0 where
  pub frame : List ℕ
  pub rest : List ℕ
  pub kind : ℕ
  pub body : List ℕ
  pub next : S
  pub split : bytes ≡ frame ++ rest
  pub is_frame : IsFrame frame kind body
  pub means : Is s kind body m next

-- a whole message whose body means nothing under the state
pub record BreaksBody {S M : Type 0} (Is : S → ℕ → List ℕ → M → S → Type 0) (s : S) (bytes : List ℕ) : Type 0 where
  pub frame : List ℕ
  pub rest : List ℕ
  pub kind : ℕ
  pub body : List ℕ
  pub split : bytes ≡ frame ++ rest
  pub is_frame : IsFrame frame kind body
  pub nothing : (m : M) (t : S) → Is s kind body m t → ⊥

-- no message stands at the front, and this is the verdict
abbrev pub Stops : {S M : Type 0} → (S → ℕ → List ℕ → M → S → Type 0) → S → List ℕ → Verdict → Type 0
Stops Is s bytes whole = bytes ≡ []
Stops Is s bytes more = (0 < length bytes) × NeedsMore bytes
Stops Is s bytes terminated = ⊥
Stops Is s bytes (broken Version) = BreaksVersion bytes
Stops Is s bytes (broken Length) = BreaksLength bytes
Stops Is s bytes (broken Body) = BreaksBody Is s bytes

-- The bytes are messages that mean these values, and a rest, with the length of all messages and the verdict. Nothing
-- is read after a termination.
abbrev pub Walks : {S M : Type 0} → (S → ℕ → List ℕ → M → S → Type 0) → S → List ℕ → List M → ℕ → Verdict → Type 0
Walks Is s bytes [] offset v = (offset ≡ 0) × Stops Is s bytes v
Walks Is s bytes (m ∷ ms) offset v = (step : Step Is s bytes m) × MatchBool (step.kind == termination)
    ((ms ≡ []) × (offset ≡ length step.frame) × (v ≡ terminated))
    ((after : ℕ) × (offset ≡ length step.frame + after) × Walks Is step.next step.rest ms after v)

-- These bytes are messages that lead from one state to another and mean these values, none of them a termination: each
-- way to go on after them is a way to walk them and what follows.
pub record HasWalked {S M : Type 0} (Is : S → ℕ → List ℕ → M → S → Type 0) (s t : S) (given : List ℕ) (ms : List M) : Type 0 where
  pub go : (rest : List ℕ) (ns : List M) (n : ℕ) (v : Verdict) → Walks Is t rest ns n v → Walks Is s (given ++ rest) (ms ++ ns) (length given + n) v
