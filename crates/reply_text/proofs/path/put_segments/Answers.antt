use Rattle.std.proofs.Common.{◌≡◌, ◌∙◌, false, take, Ok, refl, add-one, arith}
use Rattle.std.proofs.lemmas.List.{take_all}
use Rattle.std.specs.List.{flat_map}
use Rattle.bmp_specs.specs.RouteLine.{segment_pieces, path_text}
use Rattle.reply_text.specs.Pieces.{has_piece, more_pieces}
use Rattle.reply_text.proofs.Pieces.{path_next, path_split, has_next, joined_pieces-more}
use Rattle.wire_io.proofs.Joins.{join, join_failed, writes_none}
use Rattle.reply_text.proofs.path.put_segments.Goals as goal

pub loop-segment-init : goal.loop-segment-init
loop-segment-init g c = record { written = writes_none c.args.out.now; some = refl }

pub returns-in_err-put_segment : goal.returns-in_err-put_segment
returns-in_err-put_segment g c =
    let i = c.loop-segment.invariant in
    let split = path_split c.loop-segment.some c.args.segments.now c.loop-segment.segment-index c.segment-item.result (omega arith) c.segment-item.is i.some in
    join_failed c.args.out.now c.loop-segment.out c.put_segment.new.out (more_pieces false (flat_map segment_pieces (take c.loop-segment.segment-index c.args.segments.now))) _ split.0 (path_text c.args.segments.now) _ c.from_residual.result
    i.written c.in_err-put_segment.ensures c.from_residual.ensures.0 split.1

pub loop-segment-preserved : goal.loop-segment-preserved
loop-segment-preserved g c =
    let i = c.loop-segment.invariant in
    record {
      written = join c.args.out.now c.loop-segment.out c.put_segment.new.out (more_pieces false (flat_map segment_pieces (take c.loop-segment.segment-index c.args.segments.now))) _ _ tt (Ok tt) i.written c.in_ok-put_segment.ensures
          (rw add-one (path_next c.loop-segment.some c.args.segments.now c.loop-segment.segment-index c.segment-item.result (omega arith) c.segment-item.is i.some));
      some = rw add-one (c.goes_on-some.ensures ∙ has_next c.loop-segment.some c.args.segments.now c.loop-segment.segment-index c.segment-item.result (omega arith) c.segment-item.is i.some);
    }

pub returns : goal.returns
returns g c =
    let i = c.loop-segment.invariant in
    let all : take c.loop-segment.segment-index c.args.segments.now ≡ c.args.segments.now = take_all c.loop-segment.segment-index c.args.segments.now c.loop-segment-test.false in
    let some : c.loop-segment.some ≡ has_piece (flat_map segment_pieces c.args.segments.now) = rw all at i.some in
    join c.args.out.now c.loop-segment.out c.put_empty.new.out (more_pieces false (flat_map segment_pieces c.args.segments.now)) _ (path_text c.args.segments.now) tt _ (rw all at i.written) c.put_empty.ensures
    (rw some (joined_pieces-more (flat_map segment_pieces c.args.segments.now)))
