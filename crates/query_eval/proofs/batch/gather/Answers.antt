use Rattle.std.proofs.Common.{◌≡◌, arith, length, length-take, take}
use Rattle.std.proofs.lemmas.List.{take_more_set}
use Rattle.query_eval.proofs.Batches.{shown_more}
use Rattle.query_eval.proofs.batch.gather.Goals as goal

pub loop-count-preserved : goal.loop-count-preserved
loop-count-preserved g c =
    let i = c.loop-count.invariant in
    let k = c.loop-count.count in
    let same : length (take k c.loop-count.nlris) ≡ length (take k c.loop-count.routes) = omega (arith, length-take k c.loop-count.nlris, length-take k c.loop-count.routes) in
    record {
      rows = shown_more _ _ _ _ _ _ _ c.in-Some.found.0 c.in-Some.found.1 (take_more_set c.loop-count.nlris k _ (omega arith)) (take_more_set c.loop-count.routes k _ (omega arith)) same i.rows c.in-Some.ensures.some;
      within = omega (arith, i.within);
      fewer = omega (arith, i.fewer, c.in-Some.ensures.fewer);
    }
