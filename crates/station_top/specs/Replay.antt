-- What a replay stands for: the entries that its tables in the making have, and those that are gathered and that they
-- don't have yet.
use Rattle.std.specs.Prelude.{◌≡◌, ◌≢◌, ℕ, List, [], ◌∷◌, ◌++◌, length}
use Rattle.ask_specs.specs.Asking.{plain}
use Rattle.ask_specs.specs.AskReply.{IsAskReply}
use Rattle.bmp_specs.specs.Query.{quit}
use Rattle.bmp_specs.specs.Values.{EntryValue}
use Rattle.cut_publisher.specs.History.{batch}
use Rattle.query_eval.specs.Replies.{StandsForHistory}
use Rattle.query_lang.specs.declared.ask.Ask.{Ask}
use Rattle.query_lang.specs.Asks.{ask_value}
use Rattle.rib_model.specs.declared.entry.Entry.{Entry}
use Rattle.rib_model.specs.Entries.{entry_values}
use Rattle.router_tables.specs.Building.{Builds}
use Rattle.router_tables.specs.Tables.{TablesValue}
use Rattle.station_top.specs.declared.replay.Replay.{Replay}
use Rattle.station_top.specs.declared.replay.ReplayByOrigin.{ReplayByOrigin}

-- they are the entries that the tables in the making have taken, and then those that are gathered
pub record Gathers (replay : Replay) (entries : List EntryValue) : Type 0 where
  pub taken : List Entry
  pub builds : Builds replay.builder (entry_values taken)
  pub values : entries ≡ entry_values (taken ++ replay.gathered)

abbrev pub GathersByOrigin : ReplayByOrigin → List EntryValue → Type 0
GathersByOrigin account entries = Gathers account.replay entries

-- the tables in the making have taken all of them
pub record Settled (replay : Replay) (entries : List EntryValue) : Type 0 where
  pub gathers : Gathers replay entries
  pub none : replay.gathered ≡ []

-- the cut stands for a history of these entries, all of the one lane
pub record IsCutOfEntries (cut : List (TablesValue × ℕ)) (entries : List EntryValue) : Type 0 where
  pub taken : List Entry
  pub values : entries ≡ entry_values taken
  pub stands : StandsForHistory cut (batch 0 taken)
  pub one : length cut ≡ 1

-- the bytes are the reply to what is asked, on the one lane with these entries
abbrev pub IsReplyOf : Ask → List EntryValue → List ℕ → Type 0
IsReplyOf ask entries bytes = IsAskReply (ask_value ask) (entries ∷ []) bytes

-- it has a reply
abbrev pub IsAsked : Ask → Type 0
IsAsked ask = ask_value ask ≢ plain quit
