use Rattle.std.proofs.Common.{take, Ok}
use Rattle.bmp_specs.specs.EscapedText.{escaped_text}
use Rattle.wire_io.specs.Writes.{Writes}
use Rattle.reply_text.proofs.escaped.put_escaped.Given as goal

abbrev pub invariant-loop-byte : goal.invariant-loop-byte
invariant-loop-byte g l = Writes g.O.Sink.faults g.O.Sink.told g.O.Sink.aside l.fn.out (escaped_text (take l.byte-index l.bytes)) (Ok tt) l.out
