-- The dialogue of a connection: the lines that a client sent, and the replies to them.
use Rattle.std.specs.Prelude.{◌≡◌, ◌⊎◌, ℕ, ◌≤◌, Bool, true, false, List, [], ◌∷◌, ◌++◌}
use Rattle.std.specs.List.{Contains}
use Rattle.cut_publisher.specs.History.{Begins, revision}
use Rattle.ask_session.specs.declared.close.Close.{Close}
use Rattle.ask_session.specs.declared.close.Close.TheVariants.{Ended, Full, Over, ReadFault, WriteFault}
use Rattle.ask_session.specs.Lines.{EndsLine, IsLast, IsSilent}
use Rattle.ask_session.specs.Replies.{History, Heard, IsHeard, IsAnswer, is_over}

-- a line, how it was taken, the front of the history that it was answered of, and the reply
pub record Turn : Type 0 where
  pub line : List ℕ
  pub heard : Heard
  pub seen : History
  pub reply : List ℕ

-- What the bytes after the last line may be: no further line. After `quit`, a line that is too long and a failed write
-- none is asked for: the connection ends with a line then.
abbrev pub Leaves : Close → Bool → List ℕ → Type 0
Leaves Ended ended bytes = IsSilent ended bytes
Leaves Full ended bytes = IsSilent ended bytes
Leaves ReadFault ended bytes = IsSilent ended bytes
Leaves Over ended bytes = ⊥
Leaves WriteFault ended bytes = ⊥

-- the connection ends with this line: after it none counts, or its reply couldn't be written
abbrev pub EndsWith : Close → Bool → Type 0
EndsWith Over over = over ≡ true
EndsWith WriteFault over = Unit {0}
EndsWith Ended over = ⊥
EndsWith Full over = ⊥
EndsWith ReadFault over = ⊥

-- The next line of the bytes is this turn's, and it was answered of a front of the history, whose revision is at least
-- the one before. `text` is the reply and what is written after it.
pub record Takes (lanes : ℕ) (ended : Bool) (history : History) (least : ℕ) (bytes : List ℕ) (turn : Turn) (rest back text : List ℕ) : Type 0 where
  pub next : EndsLine bytes turn.line rest ⊎ IsLast ended bytes turn.line rest
  pub heard : IsHeard turn.line turn.heard
  pub seen : Begins turn.seen history
  pub recent : least ≤ revision turn.seen
  pub answered : IsAnswer lanes turn.seen turn.heard turn.reply
  pub all : text ≡ turn.reply ++ back

-- The lines of the bytes, in order, and their replies. The connection ends with a line, or others count after it, as they
-- don't after `quit` and after one that is too long.
abbrev pub Talks : ℕ → Close → Bool → History → ℕ → List ℕ → List Turn → List ℕ → Type 0
Talks lanes close ended history least bytes [] text = Leaves close ended bytes × (text ≡ [])
Talks lanes close ended history least bytes (turn ∷ turns) text = (rest : List ℕ) × (back : List ℕ) × Takes lanes ended history least bytes turn rest back text
    × ((EndsWith close (is_over turn.heard) × (turns ≡ []) × (back ≡ [])) ⊎ ((is_over turn.heard ≡ false) × Talks lanes close ended history (revision turn.seen) rest turns back))

-- The bytes are lines to which this text is the replies, on a history of so many lanes, from this revision on. `ended`
-- tells whether the bytes are all that will be read.
pub record Dialogue (lanes : ℕ) (close : Close) (ended : Bool) (history : History) (least : ℕ) (bytes text : List ℕ) : Type 0 where
  pub turns : List Turn
  pub talks : Talks lanes close ended history least bytes turns text

-- The same of bytes after which the connection goes on: no line among them ends it, and what stands after the last one
-- may become a line yet. It is the dialogue of a connection of which the next read fails.
abbrev pub GoesOn : ℕ → History → ℕ → List ℕ → List ℕ → Type 0
GoesOn lanes history least bytes text = Dialogue lanes ReadFault false history least bytes text

-- a turn of some connection, on this history
pub record IsTurnOn (lanes : ℕ) (history : History) (turn : Turn) : Type 0 where
  pub close : Close
  pub ended : Bool
  pub least : ℕ
  pub bytes : List ℕ
  pub text : List ℕ
  pub dialogue : Dialogue lanes close ended history least bytes text
  pub stands : Contains dialogue.turns turn
