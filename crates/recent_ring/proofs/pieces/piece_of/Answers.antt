use Rattle.std.proofs.Common.{◌+◌, sym, subst, take, arith}
use Rattle.std.specs.List.{AllZip}
use Rattle.recent_ring.proofs.Copies.{alike_more, item_there}
use Rattle.recent_ring.proofs.pieces.piece_of.Goals as goal
use Rattle.recent_ring.proofs.pieces.piece_of.Goals.{in-Some+in_ok-kept+in_ok-push, in_default}

pub loop-place-preserved : goal.loop-place-preserved
loop-place-preserved g c = elim c.match-get.branch [
  | in-Some+in_ok-kept+in_ok-push w ↦
      let more = alike_more g.T.Keep.alike c.args.items.now.items c.loop-place.piece.items c.loop-place.place w.in-Some.item.now w.in_ok-kept.kept w.in-Some.ensures w.in_ok-kept.ensures c.loop-place.invariant in
      subst (λ v. AllZip g.T.Keep.alike (take (c.loop-place.place + 1) c.args.items.now.items) v.items) (sym w.piece-is) (subst (λ l. AllZip g.T.Keep.alike (take (c.loop-place.place + 1) c.args.items.now.items) l) (sym w.in_ok-push.ensures.items) more)
  | in_default w ↦ absurd (item_there c.args.items.now.items c.loop-place.place (omega (arith, c.loop-place-test.true, c.len-place-end.ensures.len)) (sym w.in_default.ensures))
]
