use Rattle.std.proofs.Common.{◌≡◌}
use Rattle.bmp_message.specs.StreamWalk.{fed_of, rest_of}
use Rattle.call_cases.proofs.messages.walks.drain.Given as goal

abbrev pub invariant-loop-kind : goal.invariant-loop-kind
invariant-loop-kind l = fed_of l.walk ≡ fed_of l.initial.walk

abbrev pub decreases-loop-kind : goal.decreases-loop-kind
decreases-loop-kind l = rest_of l.walk
