use Rattle.std.proofs.Common.{take, Ok}
use Rattle.std.specs.Prelude.{flat_map}
use Rattle.bmp_specs.specs.PeerText.{hex_text}
use Rattle.ask_specs.specs.FullLine.{segment_octets}
use Rattle.wire_io.specs.Writes.{Writes}
use Rattle.reply_text.proofs.raw.put_path_octets.Given as goal

abbrev pub invariant-loop-segment : goal.invariant-loop-segment
invariant-loop-segment g l = Writes g.O.Sink.faults g.O.Sink.told g.O.Sink.aside l.fn.out (flat_map (λ segment. hex_text (segment_octets segment)) (take l.segment-index l.segments)) (Ok tt) l.out
