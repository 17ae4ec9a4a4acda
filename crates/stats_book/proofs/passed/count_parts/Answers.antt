use Rattle.std.proofs.Common.{arith}
use Rattle.stats_book.proofs.PartSums.{parts_more}
use Rattle.stats_book.proofs.passed.count_parts.Goals as goal

pub loop-effect-preserved : goal.loop-effect-preserved
loop-effect-preserved c =
    parts_more c.args.effects.now c.loop-effect.effect-index c.effect-item.result c.loop-effect.parts c.parts_of.result _ (omega arith) c.effect-item.is c.loop-effect.invariant c.parts_of.ensures c.saturating_add-parts.ensures
