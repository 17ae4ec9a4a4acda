use Rattle.std.proofs.Common.{ℕ, ◌<◌, get_or}
use Rattle.std.specs.Arc.{arc_value}
use Rattle.cut_publisher.proofs.ending.all_follow.Given as goal
use Rattle.cut_publisher.specs.History.{Fed, told}
use Rattle.cut_publisher.specs.Publication.{IsFollowed}

abbrev pub invariant-loop-feed : goal.invariant-loop-feed
invariant-loop-feed g l = (k : ℕ) (d : Fed g.row.S-Entry.Denot) → k < l.feed-index → IsFollowed (get_or l.feeds k d) (arc_value l.shown.cut) (told l.shown.seen.log)
