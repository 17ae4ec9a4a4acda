use Rattle.std.proofs.Common.{ap}
use Rattle.bmp_message.specs.Lenient.{lenient_state}
use Rattle.bmp_message.proofs.lenient.LenientReading.new.Goals as goal

pub returns : goal.returns
returns c = ap lenient_state c.new.ensures.empty
