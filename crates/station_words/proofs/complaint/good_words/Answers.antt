use Rattle.std.proofs.Common.{inl, refl, arith}
use Rattle.station_words.proofs.complaint.good_words.Goals as goal

pub loop-count-init : goal.loop-count-init
loop-count-init c = (inl refl, λ more below above. absurd (omega (arith, below)))

pub returns : goal.returns
returns c = (c.loop-count.invariant.0, λ more below above. c.loop-count.invariant.1 more (omega (arith, below, c.loop-count-test.false)) above)
