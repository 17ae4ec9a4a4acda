use Rattle.std.proofs.Common.{◌≡◌, ◌∙◌, ◌-◌, ◌<◌, length, take, Some, ap, sym, subst, arith}
use Rattle.std.specs.Arc.{arc_value}
use Rattle.std.specs.List.{slice_get}
use Rattle.std.specs.declared.vec.Vec.{Vec}
use Rattle.std.proofs.lemmas.Option.{slice_get-get_or}
use Rattle.recent_ring.specs.Recent.{joined}
use Rattle.recent_ring.proofs.Joined.{in_last, before_last}
use Rattle.recent_ring.proofs.pieces.from_the_last.Goals as goal

pub returns-then-left-piece : goal.returns-then-left-piece
returns-then-left-piece g c =
    let p = c.index-pieces-first.result in
    let i = c.loop-first.invariant in
    let left = c.loop-first.left in
    let same = c.as_slice-piece.ensures.value ∙ ap (λ (v : Vec _ _). v.items) c.deref.ensures in
    let item = c.index-piece-piece.result in
    let here : left < length c.as_slice-piece.result.now = c.if-left-piece.true in
    ap Some c.index-piece-piece.is
    ∙ sym (slice_get-get_or c.as_slice-piece.result.now (length c.as_slice-piece.result.now - 1 - left) item (omega (arith, here)))
    ∙ ap (λ l. slice_get l (length l - 1 - left)) same
    ∙ in_last c.args.pieces.now c.loop-first.first left (length (joined c.args.pieces.now) - 1 - c.args.back) p c.loop-first-test.true i.within c.index-pieces-first.is i.below i.place (subst (λ l. left < length l) same here)

pub loop-first-preserved : goal.loop-first-preserved
loop-first-preserved g c =
    let p = c.index-pieces-first.result in
    let i = c.loop-first.invariant in
    let same = c.as_slice-piece.ensures.value ∙ ap (λ (v : Vec _ _). v.items) c.deref.ensures in
    let long : length c.as_slice-piece.result.now ≡ length (arc_value p).items = ap (λ l. length l) same in
    let step = before_last c.args.pieces.now c.loop-first.first c.loop-first.left p c.loop-first-test.true i.within c.index-pieces-first.is i.below (omega (arith, c.if-left-piece.false, long)) in
    record {
      within = omega (arith, i.within);
      below = omega (arith, step.0, long);
      place = ap (λ n. length (joined (take (c.loop-first.first - 1) c.args.pieces.now)) - 1 - (c.loop-first.left - n)) long ∙ step.1 ∙ i.place;
    }

pub returns : goal.returns
returns g c =
    let i = c.loop-first.invariant in
    let none : length (joined (take c.loop-first.first c.args.pieces.now)) ≡ 0 = ap (λ n. length (joined (take n c.args.pieces.now))) (let zero : c.loop-first.first ≡ 0 = omega (arith, c.loop-first-test.false) in zero) in
    absurd (omega (arith, i.below, none))
