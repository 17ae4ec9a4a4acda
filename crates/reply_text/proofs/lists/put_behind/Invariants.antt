use Rattle.std.proofs.Common.{map, take, Ok}
use Rattle.bmp_specs.specs.NumberText.{number_text}
use Rattle.reply_text.specs.Pieces.{behind}
use Rattle.wire_io.specs.Writes.{Writes}
use Rattle.reply_text.proofs.lists.put_behind.Given as goal

abbrev pub invariant-loop-number : goal.invariant-loop-number
invariant-loop-number g l = Writes g.O.Sink.faults g.O.Sink.told g.O.Sink.aside l.fn.out (behind l.mark (map number_text (take l.number-index l.numbers))) (Ok tt) l.out
