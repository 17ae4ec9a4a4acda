use Rattle.std.proofs.Common.{◌∙◌, ◌≤◌, length, sym, arith}
use Rattle.recent_ring.proofs.Copies.{copied_more, item_there}
use Rattle.recent_ring.proofs.ring.copy_of.Goals as goal
use Rattle.recent_ring.proofs.ring.copy_of.Goals.{in-Some+in_ok-kept+in-Some-1, in-Some+in_ok-kept+in-None-1, in_default}

pub loop-place-preserved : goal.loop-place-preserved
loop-place-preserved g c =
    let i = c.loop-place.invariant in
    let fits : length c.args.items.now.items ≤ c.args.items.now.capacity = omega (arith, c.capacity-room.ensures.within.0, c.capacity-room.ensures.capacity) in
    elim c.match-get.branch [
      | in-Some+in_ok-kept+in-Some-1 w ↦
          let s = copied_more g.T.Keep.alike c.args.items.now c.loop-place.copy c.match-get.copy c.loop-place.place w.in-Some.item.now w.in_ok-kept.kept w.in-Some.ensures w.in_ok-kept.ensures fits i.alike i.room (w.copy-is ∙ w.push_back.ensures.items) in
          record { alike = s.0; room = s.1 }
      | in-Some+in_ok-kept+in-None-1 w ↦
          let s = copied_more g.T.Keep.alike c.args.items.now c.loop-place.copy c.match-get.copy c.loop-place.place w.in-Some.item.now w.in_ok-kept.kept w.in-Some.ensures w.in_ok-kept.ensures fits i.alike i.room (w.copy-is ∙ w.push_back.ensures.items) in
          record { alike = s.0; room = s.1 }
      | in_default w ↦ absurd (item_there c.args.items.now.items c.loop-place.place (omega (arith, c.loop-place-test.true, c.len-place-end.ensures.len)) (sym w.in_default.ensures))
    ]
