use Rattle.std.proofs.Common.{take, Ok}
use Rattle.std.specs.Prelude.{flat_map}
use Rattle.bmp_specs.specs.PeerText.{hex_text}
use Rattle.byteorder.specs.Endian.{big_bytes}
use Rattle.wire_io.specs.Writes.{Writes}
use Rattle.reply_text.proofs.raw.put_number_octets.Given as goal

abbrev pub invariant-loop-number : goal.invariant-loop-number
invariant-loop-number g l = Writes g.O.Sink.faults g.O.Sink.told g.O.Sink.aside l.fn.out (flat_map (λ number. hex_text (big_bytes 4 number)) (take l.number-index l.numbers)) (Ok tt) l.out
