use Rattle.std.proofs.Common.{◌≡◌, ◌∙◌, ◌-◌, inl, inr, length, drop, ap, arith}
use Rattle.std.specs.Arc.{arc_value}
use Rattle.std.specs.declared.vec.Vec.{Vec}
use Rattle.std.proofs.Math.Seq.{drop-length}
use Rattle.recent_ring.specs.Recent.{joined}
use Rattle.recent_ring.proofs.Joined.{needed_more}
use Rattle.recent_ring.proofs.pieces.not_needed.Goals as goal

pub loop-first-init : goal.loop-first-init
loop-first-init g c =
    let none : length (joined (drop (length c.args.pieces.now) c.args.pieces.now)) ≡ 0 = ap (λ l. length (joined l)) (drop-length c.args.pieces.now) in
    record { within = omega arith; left = omega (arith, none) }

pub loop-first-preserved : goal.loop-first-preserved
loop-first-preserved g c =
    let p = c.index-pieces-first.result in
    let i = c.loop-first.invariant in
    let long : length c.as_slice.result.now ≡ length (arc_value p).items = ap (λ l. length l) c.as_slice.ensures.value ∙ ap (λ (v : Vec _ _). length v.items) c.deref.ensures in
    record {
      within = omega (arith, i.within);
      left = c.saturating_sub-left.ensures ∙ ap (λ n. c.loop-first.left - n) long ∙ needed_more c.args.pieces.now c.loop-first.first c.args.items c.loop-first.left p c.loop-first-test.true i.within c.index-pieces-first.is i.left;
    }

pub returns-else-left-gt0-clause-enough : goal.returns-else-left-gt0-clause-enough
returns-else-left-gt0-clause-enough g c = inr (omega (arith, c.if-left-gt0.false, c.loop-first.invariant.left))

pub returns-after-loop-first-clause-enough : goal.returns-after-loop-first-clause-enough
returns-after-loop-first-clause-enough g c = inl (omega (arith, c.loop-first-test.false))
