use Rattle.std.specs.List.{range_with_len}
use Rattle.bmp_specs.specs.Parts.{AreParts}
use Rattle.bmp_writer.specs.Written.{Appends}
use Rattle.drill_streams.specs.Messages.{IsUp}
use Rattle.drill_streams.proofs.opening.put_ups.Given as goal

abbrev pub invariant-loop-peer : goal.invariant-loop-peer
invariant-loop-peer l = Appends (λ bytes. AreParts IsUp bytes (range_with_len 0 l.peer)) l.fn.out l.out
