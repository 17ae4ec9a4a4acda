use Rattle.std.proofs.Common.{◌≡◌, drop}
use Rattle.cut_publisher.proofs.turning.queue.Given as goal

abbrev pub invariant-loop : goal.invariant-loop
invariant-loop g l = (l.shown ≡ l.initial.shown) × (l.writer.desk ≡ l.initial.writer.desk) × (drop l.writer.behind l.writer.log.items ≡ drop l.initial.writer.behind l.initial.writer.log.items)
