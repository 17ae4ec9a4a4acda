-- What a station that served has come to: one history that all its passes have seen, and what each lane and each asker
-- has to do with it.
use Rattle.std.specs.Prelude.{◌≡◌, ℕ, ◌+◌, List, [], ◌∷◌, length, map, Bool, IsTrue}
use Rattle.bmp_specs.specs.Meaning.{Meaning}
use Rattle.cut_publisher.specs.History.{Asker, Begins, Fed, Site, part, revision}
use Rattle.cut_publisher.specs.Opening.{fresh_feed}
use Rattle.cut_publisher.specs.Ending.{IsEnding}
use Rattle.rib_model.specs.declared.entry.Entry.{Entry}
use Rattle.rib_model.specs.Entries.{entry_values}
use Rattle.router_tables.specs.Tables.{TablesValue, StandsFor}
use Rattle.wire_io.specs.Aside.{Aside}
use Rattle.station_doors.specs.Doors.{Returned, ReturnedLink}
use Rattle.feed_worker.specs.Feed.{ServesFeed}
use Rattle.feed_worker.specs.declared.feed.LaneEnd.{LaneEnd}
use Rattle.ask_session.specs.Connection.{Conversed}
use Rattle.ask_session.specs.Replies.{History}
use Rattle.ask_session.specs.Sessions.{Served, Session}
use Rattle.station_run.specs.Handed.{LinkShows, numbered, numbered_links}
use Rattle.station_run.specs.Pairing.{outcome_of}
use Rattle.station_run.specs.declared.outcome.Outcome.{Outcome}

-- a lane: what its port showed when it was handed out, and when it came back; its pass then; how its work ended
pub record LaneRun : Type 0 where
  pub first : Aside
  pub last : Aside
  pub pass : Fed Entry
  pub end : LaneEnd

-- an asker: the same of its link; its pass once it had served; how many connections it served
pub record AskRun : Type 0 where
  pub first : LinkShows
  pub last : LinkShows
  pub pass : Asker Entry
  pub served : ℕ

abbrev pub first_of : LaneRun → Aside
first_of r = r.first

abbrev pub last_of : LaneRun → Aside
last_of r = r.last

abbrev pub pass_of : LaneRun → Fed Entry
pass_of r = r.pass

abbrev pub end_of : LaneRun → LaneEnd
end_of r = r.end

abbrev pub first_link_of : AskRun → LinkShows
first_link_of r = r.first

abbrev pub last_link_of : AskRun → LinkShows
last_link_of r = r.last

abbrev pub ask_of : AskRun → Asker Entry
ask_of r = r.pass

-- The lane of this number served the connections of its port, up to so many, and its pass published them from nothing on.
pub record LaneServes (meaning : Meaning) (rounds : ℕ) (site : Site) (lane : ℕ) (r : LaneRun) : Type 0 where
  pub serves : ServesFeed meaning rounds r.first r.last (fresh_feed site lane) r.pass r.end

abbrev pub LanesServe : Meaning → ℕ → Site → ℕ → List LaneRun → Type 0
LanesServe meaning rounds site lane [] = Unit {0}
LanesServe meaning rounds site lane (r ∷ rs) = LaneServes meaning rounds site lane r × LanesServe meaning rounds site (lane + 1) rs

-- The asker served the connections of its link, up to so many, from nothing seen on.
pub record AskServes (rounds : ℕ) (site : Site) (r : AskRun) : Type 0 where
  pub station : r.pass.station ≡ site
  pub served : Served site.lanes rounds [] r.pass.seen r.first.shows r.last.shows r.first.written r.last.written r.first.faults r.last.faults r.served

abbrev pub AsksServe : ℕ → Site → List AskRun → Type 0
AsksServe rounds site [] = Unit {0}
AsksServe rounds site (r ∷ rs) = AskServes rounds site r × AsksServe rounds site rs

-- The same, and its part of the history is what its pass published: the lives of these connections, or, out of
-- memory, all but a beginning of the last one's.
pub record IsLaneRun (meaning : Meaning) (rounds : ℕ) (site : Site) (history : History) (lane : ℕ) (r : LaneRun) : Type 0 where
  pub lane_serves : LaneServes meaning rounds site lane r
  pub published : part lane history ≡ r.pass.entries

-- the lanes from this number on
abbrev pub AreLaneRuns : Meaning → ℕ → Site → History → ℕ → List LaneRun → Type 0
AreLaneRuns meaning rounds site history lane [] = Unit {0}
AreLaneRuns meaning rounds site history lane (r ∷ rs) = IsLaneRun meaning rounds site history lane r × AreLaneRuns meaning rounds site history (lane + 1) rs

-- What was read of each of these connections, and what was written to it, is a conversation on this one history. What
-- the pass had seen as each began gives the least revision of its replies.
abbrev pub AreOnHistory : ℕ → History → History → ℕ → List Session → Type 0
AreOnHistory lanes history seen writes [] = Unit {0}
AreOnHistory lanes history seen writes (s ∷ ss) = Conversed lanes history (revision seen) s.opened s.ended s.input s.told0 s.told1 writes s.writes s.close × AreOnHistory lanes history s.seen s.writes ss

-- The same of an asker: what it had seen in the end is a beginning of the history, and each of its conversations is one on
-- the history.
pub record IsAskRun (rounds : ℕ) (site : Site) (history : History) (r : AskRun) : Type 0 where
  pub ask_serves : AskServes rounds site r
  pub earlier : Begins r.pass.seen history
  pub on_history : AreOnHistory site.lanes history [] r.first.faults ask_serves.served.sessions

abbrev pub AreAskRuns : ℕ → Site → History → List AskRun → Type 0
AreAskRuns rounds site history [] = Unit {0}
AreAskRuns rounds site history (r ∷ rs) = IsAskRun rounds site history r × AreAskRuns rounds site history rs

-- All lanes and askers have served: what their ports and links showed before and show now, whether their passes were kept,
-- and whether a lane ended out of memory.
pub record HaveServed (meaning : Meaning) (rounds : ℕ) (site : Site) (first last : List Returned) (first_links last_links : List ReturnedLink) (kept : Bool) (feeds : List (Fed Entry)) (asks : List (Asker Entry)) (outcome : Outcome) : Type 0 where
  pub runs : List LaneRun
  pub ask_runs : List AskRun
  pub first_are : numbered first_of 0 runs ≡ first
  pub last_are : numbered last_of 0 runs ≡ last
  pub first_links_are : numbered_links first_link_of 0 ask_runs ≡ first_links
  pub last_links_are : numbered_links last_link_of 0 ask_runs ≡ last_links
  pub lanes : LanesServe meaning rounds site 0 runs
  pub askers : AsksServe rounds site ask_runs
  pub feeds_are : IsTrue kept → feeds ≡ map pass_of runs
  pub asks_are : IsTrue kept → asks ≡ map ask_of ask_runs
  pub outcome_is : outcome ≡ outcome_of (map end_of runs)

-- tables stand for the entries that they are the tables of
abbrev pub StandFor : TablesValue → List Entry → Type 0
StandFor tables entries = StandsFor tables (entry_values entries)

-- All passes have seen one history, for which the cut stands. Its part of each lane is what that lane published; each
-- asker answered on it. `feeds` and `asks` are the passes as the end of the station shows them.
pub record IsServed (meaning : Meaning) (rounds lanes askers : ℕ) (runs : List LaneRun) (ask_runs : List AskRun) (cut : List (TablesValue × ℕ)) (feeds : List (Fed Entry)) (asks : List (Asker Entry)) (rev : ℕ) : Type 0 where
  pub site : Site
  pub wide : site.lanes ≡ lanes
  pub count : length runs ≡ lanes
  pub ask_count : length ask_runs ≡ askers
  pub ending : IsEnding StandFor lanes (map pass_of runs) (map ask_of ask_runs) cut feeds asks
  pub rev_is : rev ≡ revision ending.history
  pub lanes_are : AreLaneRuns meaning rounds site ending.history 0 runs
  pub asks_are : AreAskRuns rounds site ending.history ask_runs
