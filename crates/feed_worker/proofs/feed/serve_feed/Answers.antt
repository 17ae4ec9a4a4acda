use Rattle.std.proofs.Common.{refl, arith}
use Rattle.feed_worker.proofs.Resting.{rests_after}
use Rattle.feed_worker.proofs.Serving.{serves_more, serves_some}
use Rattle.feed_worker.proofs.feed.serve_feed.Goals as goal

pub returns-in-Err-clause-ends : goal.returns-in-Err-clause-ends
returns-in-Err-clause-ends g c = serves_some g.B.BodyReading.meaning _ _ _ _ _ c.loop-served.invariant.serves (omega (arith, c.if-count-gt-MOST_ENTRIES.false, c.count.ensures)) (g.P.FeedPort.aside c.opens.new.port) _ (c.if-not-opens.ensures.opens refl) _ _ _ c.loop-served-test.true c.in-Err.ensures.concludes

pub loop-served-preserved : goal.loop-served-preserved
loop-served-preserved g c = record {
  serves = serves_more g.B.BodyReading.meaning _ _ _ _ _ c.loop-served.invariant.serves (omega (arith, c.if-count-gt-MOST_ENTRIES.false, c.count.ensures)) (g.P.FeedPort.aside c.opens.new.port) _ (c.if-not-opens.ensures.opens refl) _ c.in-Ok.ensures.concludes;
  most = omega (arith, c.loop-served-test.true);
  at_rest = rests_after g.B.BodyReading.meaning _ _ _ _ c.in-Ok.ensures.concludes;
  told = λ a. c.in-Ok.ensures.told (rw c.if-not-opens.ensures.causes (c.loop-served.invariant.told a));
}

pub returns-in-Err-clause-told : goal.returns-in-Err-clause-told
returns-in-Err-clause-told g c = λ a. c.in-Err.ensures.told (rw c.if-not-opens.ensures.causes (c.loop-served.invariant.told a))
