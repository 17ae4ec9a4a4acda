use Rattle.std.proofs.Common.{◌≡◌, ℕ, ◌<◌, ◌≤◌, get_or}
use Rattle.cut_publisher.proofs.ending.end_feeds.Given as goal
use Rattle.cut_publisher.specs.History.{Fed, told}
use Rattle.cut_publisher.specs.Ending.{fed_at_end}

abbrev pub invariant-loop-feed : goal.invariant-loop-feed
invariant-loop-feed g l = record {
  done : (k : ℕ) (d : Fed g.row.S-Entry.Denot) → k < l.feed-index → get_or l.feeds k d ≡ fed_at_end (told l.end.seen.log) (get_or l.initial.feeds k d);
  left : (k : ℕ) (d : Fed g.row.S-Entry.Denot) → l.feed-index ≤ k → get_or l.feeds k d ≡ get_or l.initial.feeds k d;
}
