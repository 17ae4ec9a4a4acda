use Rattle.bmp_specs.specs.declared.wire.Width.TheVariants.{Four}
use Rattle.bmp_specs.specs.AsPath.{IsSegment}
use Rattle.bmp_writer.proofs.Still.{parts_more}
use Rattle.bmp_writer.proofs.path.put_segments.Goals as goal

pub loop-segment-preserved : goal.loop-segment-preserved
loop-segment-preserved c =
    let (piece, joined, is) = c.in_ok-put_segment.ensures.ok in
    parts_more (IsSegment Four) c.args.path.now c.loop-segment.segment-index _ c.segment-item.result c.args.out.now c.loop-segment.out piece c.put_segment.new.out c.loop-segment-test.true c.segment-item.is c.loop-segment.invariant joined is
