use Rattle.std.proofs.Common.{◌≡◌, ◌≤◌, List, ℕ, length, ap, ◌∙◌, arith}
use Rattle.bmp_specs.specs.Values.{SegmentValue}
use Rattle.bmp_writer.specs.WrittenAttributes.{IsShortSegment}
use Rattle.bmp_writer.proofs.Carrying.{all_more}
use Rattle.bmp_writer.proofs.path.are_short_segments.Goals as goal

pub loop-segment-preserved : goal.loop-segment-preserved
loop-segment-preserved c =
    let m = c.segment.inside in
    let inside : SegmentValue = record { kind = m.kind; numbers = m.numbers } in
    let count : length c.as_slice.result.now ≡ length inside.numbers = ap (λ (l : List ℕ). length l) c.as_slice.ensures in
    let short : length inside.numbers ≤ 255 = omega (arith, count) in
    all_more IsShortSegment c.args.path.now c.loop-segment.segment-index _ inside c.loop-segment-test.true (c.segment.view_is ∙ c.segment-item.is) c.loop-segment.invariant short
