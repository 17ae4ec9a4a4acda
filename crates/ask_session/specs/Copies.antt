-- A client that keeps a copy of a lane's rows (`Mirror` of `ask_specs`) by the replies of its connections. It asks
-- `steps table router N` first, and then `changes N S`, S being the number of its copy; or, for rows with all their path
-- attributes, `steps full table router N` and `full changes N S`.
use Rattle.std.specs.Prelude.{◌≡◌, ◌⊎◌, ℕ, ◌<◌, ◌≤◌, ◌-◌, ◌^◌, Bool, true, List, [], ◌∷◌, ◌++◌, length, map, sum_by, Option, Some, None}
use Rattle.ask_specs.specs.AskReply.{row_line, told_change}
use Rattle.ask_specs.specs.Asking.{AskValue, rows, steps}
use Rattle.ask_specs.specs.Mirror.{CopyValue, ToldValue, whole, later, Keeps, Tells, IsExactOrNone}
use Rattle.ask_specs.specs.MirrorReply.{of_lane}
use Rattle.ask_specs.specs.Offer.{IsOfferedAsk}
use Rattle.ask_specs.specs.StepRows.{AnnouncesOfUp}
use Rattle.ask_specs.specs.Traits.{no_traits}
use Rattle.bmp_specs.specs.Changes.{ChangeValue, oldest_kept}
use Rattle.bmp_specs.specs.ChangeLines.{missed_lines, steps_line}
use Rattle.bmp_specs.specs.Query.{table}
use Rattle.bmp_specs.specs.Reply.{reply}
use Rattle.bmp_specs.specs.Steps.{steps_of}
use Rattle.bmp_specs.specs.Values.{EntryValue}
use Rattle.cut_publisher.specs.History.{Begins, part, revision}
use Rattle.query_eval.specs.Replies.{lanes_of}
use Rattle.rib_model.specs.Entries.{entry_values}
use Rattle.ask_session.specs.declared.close.Close.{Close}
use Rattle.ask_session.specs.Replies.{History, asked}
use Rattle.ask_session.specs.Dialogue.{Turn, Dialogue, IsTurnOn}

-- the entries that a lane has in a history
abbrev pub lane_entries : ℕ → History → List EntryValue
lane_entries lane history = entry_values (part lane history)

-- `steps table router N` is asked, or `steps full table router N`
abbrev pub AsksAll : Bool → ℕ → AskValue → Type 0
AsksAll full lane ask = ask ≡ rows true full (table (of_lane lane)) no_traits

-- `changes N S` is asked, or `full changes N S`, S being the number of the copy
abbrev pub AsksSince : Bool → ℕ → Option CopyValue → AskValue → Type 0
AsksSince full lane None ask = ⊥
AsksSince full lane (Some copy) ask = ask ≡ steps full lane copy.number None

-- what is asked where this is told
abbrev pub AsksFor : Bool → ℕ → Option CopyValue → ToldValue → AskValue → Type 0
AsksFor full lane copy (whole total all) ask = AsksAll full lane ask
AsksFor full lane copy (later total missed made) ask = AsksSince full lane copy ask

-- the lines that tell it
abbrev pub AreToldBy : Bool → ℕ → Option CopyValue → ToldValue → List (List ℕ) → Type 0
AreToldBy full lane copy (whole total all) lines = lines ≡ steps_line lane total ∷ map (row_line full lane) all
AreToldBy full lane None (later total missed made) lines = ⊥
AreToldBy full lane (Some copy) (later total missed made) lines = (known : List ChangeValue) × (made ≡ map (λ change. change.step) known)
    × (lines ≡ steps_line lane total ∷ (missed_lines copy.number (oldest_kept total) ++ map (told_change full lane) known))

-- The turn told this of the lane: its line asks for it, its reply has the lines that tell it and no others, and it is so in the
-- history that the turn was answered of.
pub record TellsOf (lanes lane : ℕ) (copy : Option CopyValue) (told : ToldValue) (turn : Turn) : Type 0 where
  pub ask : AskValue
  -- with all path attributes, or without
  pub full : Bool
  pub heard : turn.heard ≡ asked ask
  pub asks : AsksFor full lane copy told ask
  pub lines : List (List ℕ)
  pub replied : turn.reply ≡ reply (sum_by length (lanes_of lanes turn.seen)) lines
  pub are_lines : AreToldBy full lane copy told lines
  pub is_so : Tells (lane_entries lane turn.seen) copy told

-- Each announcement of the lane is of a peer that is up, as it is where its entries are what connections gave (`Lives` of
-- `ask_specs`), and its steps have numbers that lines tell.
pub record IsTellable (lane : ℕ) (history : History) : Type 0 where
  pub of_up : AnnouncesOfUp (lane_entries lane history)
  pub few : length (steps_of (lane_entries lane history)) < 2 ^ 64 - 1

-- The reply to `steps table router N`, and that to `changes N S`, S being the number of a copy, tell something of the lane; so do
-- those with `full`.
abbrev pub TurnsTell : Type 0
TurnsTell = (full : Bool) (lanes lane : ℕ) (history : History) (turn : Turn) (copy : Option CopyValue) (ask : AskValue) → lane < lanes → IsTurnOn lanes history turn → IsTellable lane history
    → length turn.line ≤ 1024 → IsOfferedAsk turn.line ask → AsksAll full lane ask ⊎ AsksSince full lane copy ask → (told : ToldValue) × TellsOf lanes lane copy told turn

-- Two turns on one history, of one connection or of two, of which the second's revision is at least the first's: by what the
-- second tells, a copy that is exact at the first is exact at the second, or known to be none.
abbrev pub CopiesStay : Type 0
CopiesStay = (lanes lane : ℕ) (history : History) (first second : Turn) (copy kept : Option CopyValue) (told : ToldValue) → IsTurnOn lanes history first → IsTurnOn lanes history second → revision first.seen ≤ revision second.seen
    → IsTellable lane history → IsExactOrNone (lane_entries lane first.seen) copy → TellsOf lanes lane copy told second → Keeps copy told kept → IsExactOrNone (lane_entries lane second.seen) kept

-- What a client keeps over the turns of a connection. `at` is the history of the reply by which it keeps its copy, `end` that of
-- the last such reply. It may pass over any turn.
abbrev pub Mirrors : (lanes lane : ℕ) → (at : History) → Option CopyValue → List Turn → (end : History) → Option CopyValue → Type 0
Mirrors lanes lane at copy [] end kept = (end ≡ at) × (kept ≡ copy)
Mirrors lanes lane at copy (turn ∷ turns) end kept = Mirrors lanes lane at copy turns end kept
    ⊎ ((told : ToldValue) × (next : Option CopyValue) × TellsOf lanes lane copy told turn × Keeps copy told next × Mirrors lanes lane turn.seen next turns end kept)

-- Over the turns of a connection, a copy that was exact when it began is exact at the last reply by which it is kept, or known
-- to be none. A client begins with none.
abbrev pub ClientsKeepCopies : Type 0
ClientsKeepCopies = (lanes lane : ℕ) (close : Close) (ended : Bool) (history : History) (least : ℕ) (bytes text : List ℕ) (d : Dialogue lanes close ended history least bytes text) (at end : History) (copy kept : Option CopyValue)
    → Begins at history → revision at ≤ least → IsTellable lane history → IsExactOrNone (lane_entries lane at) copy → Mirrors lanes lane at copy d.turns end kept → IsExactOrNone (lane_entries lane end) kept
