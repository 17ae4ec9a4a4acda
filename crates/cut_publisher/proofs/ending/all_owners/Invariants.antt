use Rattle.std.proofs.Common.{◌≡◌, length}
use Rattle.std.specs.Prelude.{All}
use Rattle.std.specs.Arc.{arc_value}
use Rattle.cut_publisher.proofs.ending.all_owners.Given as goal

abbrev pub invariant-loop-asker : goal.invariant-loop-asker
invariant-loop-asker g l = record {
  count : length l.owners.items ≡ l._asker;
  same : All (λ c. arc_value c ≡ arc_value l.cut) l.owners.items;
}
