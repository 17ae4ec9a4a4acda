use Rattle.std.proofs.Common.{arith}
use Rattle.wire_io.proofs.Buffered.{extends_then}
use Rattle.wire_io.proofs.buffer.BufferedSink.flush.Goals as goal

pub invariant_of-self : goal.invariant_of-self
invariant_of-self g c = (omega (arith, c.pour-start.ensures.place.1), omega (arith, c.self.invariant.1), extends_then _ _ _ _ _ _ c.self.invariant.2 c.pour-start.ensures.told)

pub invariant_of-self-2 : goal.invariant_of-self-2
invariant_of-self-2 g c = (omega arith, omega arith, extends_then _ _ _ _ _ _ c.self.invariant.2 c.pour-start.ensures.told)
