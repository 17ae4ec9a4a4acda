use Rattle.std.proofs.Common.{List, length}
use Rattle.bmp_specs.specs.Values.{EffectValue}
use Rattle.router_tables.specs.Pending.{AreRowsAfter}
use Rattle.router_tables.proofs.changed.make_changes.Given as goal

abbrev pub invariant-loop-peer : goal.invariant-loop-peer
invariant-loop-peer l = (effects : List EffectValue) → AreRowsAfter l.fn.pending.entries l.fn.tables.entries effects → AreRowsAfter l.pending.entries l.tables.entries effects

abbrev pub decreases-loop-peer : goal.decreases-loop-peer
decreases-loop-peer l = length l.pending.entries
