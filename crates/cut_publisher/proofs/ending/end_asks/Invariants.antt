use Rattle.std.proofs.Common.{◌≡◌, ℕ, ◌+◌, ◌<◌, ◌≤◌, length, get_or}
use Rattle.std.specs.Prelude.{All}
use Rattle.std.specs.Arc.{arc_value}
use Rattle.cut_publisher.specs.History.{Begins, Asker, told}
use Rattle.cut_publisher.specs.Ending.{asked_at_end}
use Rattle.cut_publisher.proofs.ending.end_asks.Given as goal

abbrev pub invariant-loop-ask : goal.invariant-loop-ask
invariant-loop-ask g l = record {
  done : (k : ℕ) (d : Asker g.row.S-Entry.Denot) → k < l.ask-index → get_or l.asks k d ≡ asked_at_end (told l.end.seen.log) (get_or l.initial.asks k d);
  earlier : (k : ℕ) (d : Asker g.row.S-Entry.Denot) → k < l.ask-index → Begins (get_or l.initial.asks k d).seen (told l.end.seen.log);
  left : (k : ℕ) (d : Asker g.row.S-Entry.Denot) → l.ask-index ≤ k → get_or l.asks k d ≡ get_or l.initial.asks k d;
  count : length l.owners.items + l.ask-index ≡ length l.initial.asks;
  owners : All (λ c. arc_value c ≡ arc_value l.end.cut) l.owners.items;
}
