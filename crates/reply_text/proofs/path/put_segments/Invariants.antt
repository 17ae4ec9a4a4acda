use Rattle.std.proofs.Common.{◌≡◌, false, take, Ok}
use Rattle.std.specs.List.{flat_map}
use Rattle.bmp_specs.specs.RouteLine.{segment_pieces}
use Rattle.reply_text.specs.Pieces.{has_piece, more_pieces}
use Rattle.wire_io.specs.Writes.{Writes}
use Rattle.reply_text.proofs.path.put_segments.Given as goal

abbrev pub invariant-loop-segment : goal.invariant-loop-segment
invariant-loop-segment g l = record {
  written : Writes g.O.Sink.faults g.O.Sink.told g.O.Sink.aside l.fn.out (more_pieces false (flat_map segment_pieces (take l.segment-index l.segments))) (Ok tt) l.out;
  some : l.some ≡ has_piece (flat_map segment_pieces (take l.segment-index l.segments));
}
