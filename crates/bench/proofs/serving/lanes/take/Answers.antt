use Rattle.std.proofs.Common.{arith}
use Rattle.feed_worker.proofs.Resting.{rests_new}
use Rattle.bench.proofs.serving.lanes.take.Goals as goal

pub serve_feed-end-requires-clause-at_rest : goal.serve_feed-end-requires-clause-at_rest
serve_feed-end-requires-clause-at_rest g c = rests_new _ (omega (arith, c.if-count-gt0.false, c.count.ensures))
