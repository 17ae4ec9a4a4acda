use Rattle.std.proofs.Common.{◌≡◌, length}
use Rattle.query_eval.specs.RowTables.{keys_from, left_of}
use Rattle.query_eval.proofs.tables.AskedTables.next.Given as goal

abbrev pub invariant-loop-self : goal.invariant-loop-self
invariant-loop-self l = left_of l.fn.self ≡ left_of l.self

abbrev pub decreases-loop-self : goal.decreases-loop-self
decreases-loop-self l = length (keys_from l.self.peer l.self.key l.self.tables.now.session.books.peers)
