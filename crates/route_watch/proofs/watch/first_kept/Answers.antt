use Rattle.std.proofs.Common.{◌≡◌, ◌≤◌, ◌<◌, ◌-◌, length, Some, arith, refl, sym}
use mathlib.Core.Bool.{false≢true}
use Rattle.bmp_specs.specs.Changes.{Concerns, oldest_kept}
use Rattle.recent_ring.proofs.Copies.{item_there}
use Rattle.rib_model.specs.Steps.{step_value}
use Rattle.route_watch.proofs.Kept.{kept_at, none_past, stands_from_next}
use Rattle.route_watch.proofs.watch.first_kept.Goals as goal
use Rattle.route_watch.proofs.watch.first_kept.Goals.{in-Some+else-concerns, in_default}

pub overflow_add-result : goal.overflow_add-result
overflow_add-result c = omega (arith, c.total-total.type_inv, c.total-total.ensures.total, c.total-total.ensures.kept, c.len.ensures.len, c.len-place-end.ensures.len, c.loop-place-test.true)

pub returns-then-concerns : goal.returns-then-concerns
returns-then-concerns c =
    let recent = c.args.recent.now in
    let oldest : c.total-total.result - c.len.result ≡ oldest_kept recent.total = omega (arith, c.total-total.ensures.total, c.total-total.ensures.kept, c.len.ensures.len) in
    let concerns : Concerns c.args.prefix.now (step_value c.in-Some.step.now) = c.if-concerns.ensures.0 refl in
    let later : c.args.from - oldest_kept recent.total ≤ c.loop-place.place = omega (arith, oldest, c.saturating_sub-place.ensures, c.loop-place.auto.place) in
    rw oldest (kept_at recent c.args.from (Some c.args.prefix.now) c.loop-place.place c.in-Some.step.now (sym c.in-Some.ensures) concerns later, c.loop-place.invariant)

pub loop-place-preserved : goal.loop-place-preserved
loop-place-preserved c =
    let recent = c.args.recent.now in
    let within : c.loop-place.place < length recent.items = omega (arith, c.loop-place-test.true, c.len-place-end.ensures.len) in
    elim c.match-get.branch [
      | in-Some+else-concerns w ↦ stands_from_next recent c.args.from (Some c.args.prefix.now) c.loop-place.place w.in-Some.step.now (sym w.in-Some.ensures) (λ concerns. absurd (false≢true (w.if-concerns.ensures.1 concerns))) c.loop-place.invariant
      | in_default w ↦ absurd (item_there recent.items c.loop-place.place within (sym w.in_default.ensures))
    ]

pub returns : goal.returns
returns c = none_past c.args.recent.now c.args.from (Some c.args.prefix.now) c.loop-place.place (omega (arith, c.loop-place-test.false, c.len-place-end.ensures.len)) c.loop-place.invariant
