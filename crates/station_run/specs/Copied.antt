-- The copies of a lane's rows that the clients of a station that served keep.
use Rattle.std.specs.Prelude.{◌⊎◌, ℕ, Bool, ◌-◌, ◌<◌, ◌≤◌, ◌^◌, List, [], ◌∷◌, length, Option}
use Rattle.std.specs.List.{Contains}
use Rattle.ask_specs.specs.Asking.{AskValue}
use Rattle.ask_specs.specs.Mirror.{CopyValue, ToldValue, IsExactOrNone, Keeps}
use Rattle.ask_specs.specs.Offer.{IsOfferedAsk}
use Rattle.ask_session.specs.Copies.{AsksAll, AsksSince, TellsOf, lane_entries}
use Rattle.ask_session.specs.Dialogue.{Turn}
use Rattle.ask_session.specs.Replies.{History}
use Rattle.ask_session.specs.Sessions.{Session}
use Rattle.bmp_specs.specs.Meaning.{Meaning}
use Rattle.bmp_specs.specs.Steps.{steps_of}
use Rattle.cut_publisher.specs.History.{Asker, Fed, Site, revision}
use Rattle.rib_model.specs.declared.entry.Entry.{Entry}
use Rattle.router_tables.specs.Tables.{TablesValue}
use Rattle.station_run.specs.Served.{AreAskRuns, AreOnHistory, AskRun, IsServed, LaneRun}

-- a turn of one of these conversations
abbrev pub IsTurnAmong : (lanes : ℕ) (history seen : History) (writes : ℕ) (sessions : List Session) → AreOnHistory lanes history seen writes sessions → Turn → Type 0
IsTurnAmong lanes history seen writes [] on turn = ⊥
IsTurnAmong lanes history seen writes (s ∷ ss) on turn = Contains on.0.talk.turns turn ⊎ IsTurnAmong lanes history s.seen s.writes ss on.1 turn

-- a turn of one of the conversations of these askers
abbrev pub IsTurnOfAskers : (rounds : ℕ) (site : Site) (history : History) (rs : List AskRun) → AreAskRuns rounds site history rs → Turn → Type 0
IsTurnOfAskers rounds site history [] are turn = ⊥
IsTurnOfAskers rounds site history (r ∷ rs) are turn = IsTurnAmong site.lanes history [] r.first.faults are.0.ask_serves.served.sessions are.0.on_history turn ⊎ IsTurnOfAskers rounds site history rs are.1 turn

-- This is so of each lane of a station that served, where the lane made fewer steps than a line can tell.
module _ (Says : (lanes lane : ℕ) (history : History) → (Turn → Type 0) → Type 0) (meaning : Meaning) where
  abbrev pub OfEachLane : Type 0
  OfEachLane = (rounds lanes askers : ℕ) (runs : List LaneRun) (ask_runs : List AskRun) (cut : List (TablesValue × ℕ)) (feeds : List (Fed Entry)) (asks : List (Asker Entry)) (rev : ℕ)
      → (served : IsServed meaning rounds lanes askers runs ask_runs cut feeds asks rev) → (lane : ℕ) → lane < lanes → length (steps_of (lane_entries lane served.ending.history)) < 2 ^ 64 - 1
      → Says lanes lane served.ending.history (IsTurnOfAskers rounds served.site served.ending.history ask_runs served.asks_are)

-- A client that asks `steps table router N`, or `changes N S`, S being the number of its copy, is told of the lane what the copy
-- needs; so is one that asks the same with `full`.
abbrev pub ClientsAreTold : Meaning → Type 0
ClientsAreTold meaning = OfEachLane (λ lanes lane history IsTurn. (full : Bool) (turn : Turn) (copy : Option CopyValue) (ask : AskValue) → IsTurn turn → length turn.line ≤ 1024 → IsOfferedAsk turn.line ask
    → AsksAll full lane ask ⊎ AsksSince full lane copy ask → (told : ToldValue) × TellsOf lanes lane copy told turn) meaning

-- By what it is told a copy of the lane's rows that was exact at one reply, of whichever client, is exact at a reply of no lower
-- revision, or known to be none.
abbrev pub CopiesAreExact : Meaning → Type 0
CopiesAreExact meaning = OfEachLane (λ lanes lane history IsTurn. (first second : Turn) (copy kept : Option CopyValue) (told : ToldValue) → IsTurn first → IsTurn second → revision first.seen ≤ revision second.seen
    → IsExactOrNone (lane_entries lane first.seen) copy → TellsOf lanes lane copy told second → Keeps copy told kept → IsExactOrNone (lane_entries lane second.seen) kept) meaning
