-- The commands that wait for others: which call a command that was handed back is.
use Rattle.std.specs.Prelude.{◌≡◌, ℕ, false, List}
use Rattle.station_words.specs.Words.{IsCall}
use Rattle.station_words.specs.declared.words.Call.{Call}
use Rattle.station_words.specs.declared.words.Command.TheVariants.{Serve, Drill}
use Rattle.station_top.specs.declared.waiting.Waiting.{Waiting}
use Rattle.station_top.specs.declared.waiting.Waiting.TheVariants as waiting

-- it is the command of this call
abbrev pub IsOf : Waiting → Call → Type 0
IsOf (waiting.Serve words lenient) call = call ≡ record { command = Serve words; lenient = lenient }
IsOf (waiting.Drill words) call = call.command ≡ Drill words

-- the words are a call of it
abbrev pub Waits : Waiting → List (List ℕ) → Type 0
Waits (waiting.Serve serve lenient) words = IsCall (record { command = Serve serve; lenient = lenient }) words
Waits (waiting.Drill drill) words = IsCall (record { command = Drill drill; lenient = false }) words
