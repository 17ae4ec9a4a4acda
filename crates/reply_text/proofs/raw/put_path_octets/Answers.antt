use Rattle.std.proofs.Common.{◌≡◌, suc, take, drop, get_or, ap, Ok, add-one, arith}
use Rattle.std.specs.Prelude.{flat_map}
use Rattle.bmp_specs.specs.PeerText.{hex_text}
use Rattle.bmp_specs.specs.Values.{SegmentValue}
use Rattle.ask_specs.specs.FullLine.{segment_octets}
use Rattle.reply_text.proofs.Pieces.{flat_map_next, flat_map_split}
use Rattle.wire_io.proofs.Joins.{join, join_failed, writes_none}
use Rattle.reply_text.proofs.raw.put_path_octets.Goals as goal

pub loop-segment-init : goal.loop-segment-init
loop-segment-init g c = writes_none c.args.out.now

pub returns-in_err-put_segment_octets : goal.returns-in_err-put_segment_octets
returns-in_err-put_segment_octets g c =
    let is : hex_text (segment_octets c.segment-item.result) ≡ hex_text (segment_octets (get_or c.args.segments.now c.loop-segment.segment-index c.segment-item.result)) = ap (λ (v : SegmentValue). hex_text (segment_octets v)) c.segment-item.is in
    join_failed c.args.out.now c.loop-segment.out c.put_segment_octets.new.out (flat_map (λ (segment : SegmentValue). hex_text (segment_octets segment)) (take c.loop-segment.segment-index c.args.segments.now)) _ (flat_map (λ (segment : SegmentValue). hex_text (segment_octets segment)) (drop (suc c.loop-segment.segment-index) c.args.segments.now)) (flat_map (λ (segment : SegmentValue). hex_text (segment_octets segment)) c.args.segments.now) _ c.from_residual.result
    c.loop-segment.invariant (rw is at c.in_err-put_segment_octets.ensures) c.from_residual.ensures.0 (flat_map_split (λ (segment : SegmentValue). hex_text (segment_octets segment)) c.args.segments.now c.loop-segment.segment-index c.segment-item.result (omega arith))

pub loop-segment-preserved : goal.loop-segment-preserved
loop-segment-preserved g c =
    let is : hex_text (segment_octets c.segment-item.result) ≡ hex_text (segment_octets (get_or c.args.segments.now c.loop-segment.segment-index c.segment-item.result)) = ap (λ (v : SegmentValue). hex_text (segment_octets v)) c.segment-item.is in
    join c.args.out.now c.loop-segment.out c.put_segment_octets.new.out (flat_map (λ (segment : SegmentValue). hex_text (segment_octets segment)) (take c.loop-segment.segment-index c.args.segments.now)) _ _ tt (Ok tt) c.loop-segment.invariant (rw is at c.in_ok-put_segment_octets.ensures)
    (rw add-one (flat_map_next (λ (segment : SegmentValue). hex_text (segment_octets segment)) c.args.segments.now c.loop-segment.segment-index c.segment-item.result (omega arith)))
