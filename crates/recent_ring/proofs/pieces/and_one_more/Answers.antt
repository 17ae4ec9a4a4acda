use Rattle.std.proofs.Common.{◌∙◌, ◌++◌, ap}
use Rattle.std.specs.Arc.{arc_value}
use Rattle.std.specs.declared.vec.Vec.{Vec}
use Rattle.recent_ring.specs.Recent.{joined}
use Rattle.recent_ring.proofs.Joined.{joined_push}
use Rattle.recent_ring.proofs.pieces.and_one_more.Goals as goal

pub returns : goal.returns
returns g c =
    ap joined c.in_ok-push.ensures.items
    ∙ joined_push c.in_ok-list.list.items c.in_ok-new.field-0
    ∙ ap (λ l. l ++ (arc_value c.in_ok-new.field-0).items) c.in_ok-list.ensures
    ∙ ap (λ (v : Vec _ _). joined c.args.pieces.now ++ v.items) c.in_ok-new.ensures.ok
