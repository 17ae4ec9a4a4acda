use Rattle.std.proofs.Common.{length}
use Rattle.plain_model.proofs.Walking.{Walking}
use Rattle.plain_model.proofs.stream.walk.Given as goal

abbrev pub invariant-messages : goal.invariant-messages
invariant-messages g l = Walking (g.M.Meaning.means l.meaning) l.fn.start l.state l.fn.bytes l.rest l.messages.items l.offset

abbrev pub decreases-messages : goal.decreases-messages
decreases-messages g l = length l.rest
