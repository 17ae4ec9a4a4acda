-- The connections of an asker, one after another.
use Rattle.std.specs.Prelude.{◌≡◌, ◌≢◌, ℕ, ◌≤◌, Bool, List, [], ◌∷◌, length, MatchBool, nat_lt, Option, Result, Some, IfSome, OnErr, map, ◌++◌}
use Rattle.std.specs.Io.KnownBytes.{Keeps}
use Rattle.ask_specs.specs.Asking.{AskValue, plain}
use Rattle.ask_specs.specs.Offer.{IsOfferedAsk}
use Rattle.bmp_specs.specs.Life.{Given}
use Rattle.bmp_specs.specs.Query.{QueryValue, IsQuery, quit}
use Rattle.bmp_specs.specs.QueryReply.{IsReply}
use Rattle.cut_publisher.specs.History.{Asker, Begins, IsUnmarked, revision}
use Rattle.query_eval.specs.Replies.{IsAskReplyOn, lanes_of}
use Rattle.rib_model.specs.declared.entry.Entry.{Entry}
use Rattle.station_doors.specs.Doors.{Opens, Closes, noted_writes, opened_one, IsRefusal}
use Rattle.wire_io.specs.Aside.{Aside}
use Rattle.wire_io.specs.declared.sink.Failed.{Failed}
use Rattle.ask_session.specs.declared.close.Close.{Close}
use Rattle.ask_session.specs.Replies.{History, asked}
use Rattle.ask_session.specs.Dialogue.{Turn, Dialogue, IsTurnOn}
use Rattle.ask_session.specs.Connection.{Conversed}

-- One connection: what the pass had seen when it ended; what the link told when it was opened, ended and closed; what was
-- read of it; what was written before it and with it, and the count of faults in writes after it; and why it ended.
pub record Session : Type 0 where
  pub seen : History
  pub opened : Aside
  pub ended : Aside
  pub closed : Aside
  pub input : Given
  pub told0 : Option (List ℕ)
  pub told1 : Option (List ℕ)
  pub writes : ℕ
  pub close : Close

abbrev pub input_of : Session → Given
input_of s = s.input

-- a call of `next_connection`, with the count of faults in writes
pub record OpensLink (old new : Aside) (writes : ℕ) (result : Result Bool Failed) : Type 0 where
  pub opens : Opens old new result
  pub noted : new.write_faults ≡ noted_writes writes old.write_faults result

-- One connection after another, of so many lanes: what the pass has seen, what the link tells, what was written and the
-- count of faults in writes, before and after. What the pass has seen only grows, so that revisions never fall.
abbrev pub Serves : (lanes : ℕ) → (seen seen' : History) → (aside aside' : Aside) → (told told' : Option (List ℕ)) → (writes writes' : ℕ) → List Session → Type 0
Serves lanes seen seen' aside aside' told told' writes writes' [] = (seen' ≡ seen) × (aside' ≡ aside) × Keeps told told' × (writes' ≡ writes)
Serves lanes seen seen' aside aside' told told' writes writes' (s ∷ ss) = Begins seen s.seen × OpensLink aside s.opened writes opened_one × Keeps told s.told0
    × Conversed lanes s.seen (revision seen) s.opened s.ended s.input s.told0 s.told1 writes s.writes s.close × Closes s.ended s.closed
    × Serves lanes s.seen seen' s.closed aside' s.told1 told' s.writes writes' ss

-- A call of `next_connection` gave no connection. It failed only where the plan has a call that fails.
pub record Refuses (old new : Aside) (writes : ℕ) : Type 0 where
  pub result : Result Bool Failed
  pub refused : IsRefusal result
  pub opens : OpensLink old new writes result
  pub planned : IfSome old.plan (λ plan. OnErr result (plan.fails ≡ [] → ⊥))

-- So many of the rounds were served: all of them, or fewer, where `next_connection` then gave no connection.
pub record Served (lanes : ℕ) (rounds : ℕ) (seen seen' : History) (aside aside' : Aside) (told told' : Option (List ℕ)) (writes writes' : ℕ) (count : ℕ) : Type 0 where
  pub sessions : List Session
  pub after : Aside
  pub serves : Serves lanes seen seen' aside after told told' writes writes' sessions
  pub count_is : count ≡ length sessions
  pub stop : MatchBool (nat_lt count rounds) (Refuses after aside' writes') ((count ≡ rounds) × (aside' ≡ after))

-- what an asker's pass has seen grows, and it stays at its seat
pub record Sees (old new : Asker Entry) : Type 0 where
  pub station : new.station ≡ old.station
  pub seat : new.seated ≡ old.seated
  pub seen : Begins old.seen new.seen
  pub unmarked : IsUnmarked old.seen → IsUnmarked new.seen

-- A line that asks something offered, and no end, is taken as asking that, and gets the reply to it.
abbrev pub AsksGetReplies : Type 0
AsksGetReplies = (lanes : ℕ) (history : History) (turn : Turn) (ask : AskValue) → IsTurnOn lanes history turn → IsOfferedAsk turn.line ask → length turn.line ≤ 1024 → ask ≢ plain quit
    → (turn.heard ≡ asked ask) × IsAskReplyOn ask lanes turn.seen turn.reply

-- A line that is a query of `bmp_specs` is taken as that query, and gets its plain reply.
abbrev pub QueriesKeepReplies : Type 0
QueriesKeepReplies = (lanes : ℕ) (history : History) (turn : Turn) (query : QueryValue) → IsTurnOn lanes history turn → IsQuery turn.line query → length turn.line ≤ 1024 → query ≢ quit
    → (turn.heard ≡ asked (plain query)) × IsReply query (lanes_of lanes turn.seen) turn.reply

-- What was answered on a front of a history was answered on the history.
abbrev pub RepliesStay : Type 0
RepliesStay = (lanes : ℕ) (close : Close) (ended : Bool) (seen history : History) (least : ℕ) (bytes text : List ℕ) → Begins seen history
    → Dialogue lanes close ended seen least bytes text → Dialogue lanes close ended history least bytes text

-- A link that tells the connections that it gave tells what was read of each that was served.
abbrev pub LinksTellSessions : Type 0
LinksTellSessions = (lanes : ℕ) (sessions : List Session) (seen seen' : History) (aside aside' : Aside) (told told' : Option (List ℕ)) (writes writes' : ℕ) (given : List Given)
    → Serves lanes seen seen' aside aside' told told' writes writes' sessions → aside.given ≡ Some given → aside'.given ≡ Some (given ++ map input_of sessions)
