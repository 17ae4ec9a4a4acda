use Rattle.std.proofs.Common.{take, Ok}
use Rattle.wire_io.specs.Writes.{Writes}
use Rattle.station_top.specs.Check.{number_lines}
use Rattle.station_top.proofs.counts.put_numbers.Given as goal

abbrev pub invariant-loop-word : goal.invariant-loop-word
invariant-loop-word g l = Writes g.O.Sink.faults g.O.Sink.told g.O.Sink.aside l.fn.out (number_lines (take l.word-index l.lines)) (Ok tt) l.out
