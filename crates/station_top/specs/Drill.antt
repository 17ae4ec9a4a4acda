-- What a drill writes: the replies of `cut`, `routers` and `count` on what its lanes made of their streams.
use Rattle.std.specs.Prelude.{◌≡◌, ℕ, ◌<◌, List, ◌++◌}
use Rattle.bmp_specs.specs.Query.{cut, routers, count}
use Rattle.bmp_specs.specs.QueryReply.{IsReply}
use Rattle.bmp_specs.specs.Selection.{select_all}
use Rattle.bmp_specs.specs.Values.{EntryValue}
use Rattle.cut_publisher.specs.declared.history.Event.{Event}
use Rattle.cut_publisher.specs.History.{part}
use Rattle.query_eval.specs.Replies.{lanes_of}
use Rattle.rib_model.specs.declared.entry.Entry.{Entry}
use Rattle.rib_model.specs.Entries.{entry_values}
use Rattle.station_run.specs.Drill.{IsDrilled}

-- the text is the replies of `cut`, `routers` and `count`, one after another, on lanes with these entries
pub record AreReplies (lanes : List (List EntryValue)) (text : List ℕ) : Type 0 where
  pub first : List ℕ
  pub second : List ℕ
  pub third : List ℕ
  pub of_cut : IsReply cut lanes first
  pub of_routers : IsReply routers lanes second
  pub of_count : IsReply (count select_all) lanes third
  pub spelled : text ≡ first ++ (second ++ third)

-- They are the replies on a history of so many lanes, whose part of each lane is what that lane makes of its stream: the
-- opening of a connection and all messages, and no closing.
pub record IsDrillText (seed lanes messages : ℕ) (text : List ℕ) : Type 0 where
  pub history : List (Event Entry)
  pub parts : (lane : ℕ) → lane < lanes → IsDrilled seed messages lane (entry_values (part lane history))
  pub replies : AreReplies (lanes_of lanes history) text
