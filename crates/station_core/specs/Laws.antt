-- What follows for any schedule: the history only grows, so a reply is one on a front of the last history; and an asker is
-- never answered on less than it was shown or told of.
use Rattle.std.specs.Prelude.{ℕ, ◌<◌, ◌≤◌, List, length, take, slice_index}
use Rattle.ask_specs.specs.AskReply.{IsAskReply}
use Rattle.ask_specs.specs.Asking.{AskValue}
use Rattle.bmp_specs.specs.Meaning.{Meaning}
use Rattle.cut_publisher.specs.History.{Begins, IsUnmarked, revision}
use Rattle.station_core.specs.declared.event.Event.{Event}
use Rattle.station_core.specs.Machine.{IsAnswered, MachineValue, parts_from}
use Rattle.station_core.specs.Schedule.{Runs}

-- each history begins with those before it
abbrev pub HistoriesGrow : Meaning → Type 0
HistoriesGrow meaning = (events : List Event) (old new : MachineValue) (replies : List ℕ) → Runs meaning events old new replies → Begins old.history new.history

-- a reply is that to what is asked, on as many of the last history's entries as its revision says
abbrev pub RepliesAreOnFronts : Meaning → Type 0
RepliesAreOnFronts meaning = (events : List Event) (asker : ℕ) (ask : AskValue) (at next end : MachineValue) (reply replies : List ℕ) → IsUnmarked at.history → IsAnswered asker ask at next reply → Runs meaning events next end replies
    → IsAskReply ask (parts_from 0 (length at.lanes) (take (revision at.history) end.history)) reply

-- no asker has seen more than there is
abbrev pub HaveSeen : MachineValue → Type 0
HaveSeen v = (asker : ℕ) → asker < length v.askers → slice_index v.askers asker ≤ revision v.history

-- no asker has ever seen more than there is, nor less than before
abbrev pub AskersRemember : Meaning → Type 0
AskersRemember meaning = (events : List Event) (old new : MachineValue) (replies : List ℕ) → HaveSeen old → Runs meaning events old new replies
    → HaveSeen new × ((asker : ℕ) → slice_index old.askers asker ≤ slice_index new.askers asker)
