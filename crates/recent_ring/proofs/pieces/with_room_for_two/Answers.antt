use Rattle.std.proofs.Common.{◌∙◌, ◌++◌, ap, sym, take}
use Rattle.std.specs.Arc.{arc_value}
use Rattle.std.specs.declared.vec.Vec.{Vec}
use Rattle.recent_ring.specs.Recent.{joined}
use Rattle.recent_ring.proofs.Joined.{joined_push, joined_more}
use Rattle.recent_ring.proofs.pieces.with_room_for_two.Goals as goal

pub loop-piece-preserved : goal.loop-piece-preserved
loop-piece-preserved g c =
    let before = joined (take c.loop-piece.piece-index c.args.pieces.now) in
    ap joined c.in_ok-push.ensures.items
    ∙ joined_push c.loop-piece.list.items c.in_ok-piece.piece
    ∙ ap (λ l. l ++ (arc_value c.in_ok-piece.piece).items) c.loop-piece.invariant
    ∙ ap (λ (v : Vec _ _). before ++ v.items) c.in_ok-piece.ensures
    ∙ sym (joined_more c.args.pieces.now c.loop-piece.piece-index c.piece-item.result c.loop-piece-test.true c.piece-item.is)
