use Rattle.std.proofs.Common.{◌≡◌, ◌≤◌, ◌-◌, length, None, arith, sym}
use Rattle.bmp_specs.specs.Changes.{oldest_kept}
use Rattle.route_watch.proofs.Kept.{kept_at, none_past, past_items}
use Rattle.route_watch.proofs.any.next_kept.Goals as goal

pub returns-in-Some : goal.returns-in-Some
returns-in-Some c =
    let recent = c.args.recent.now in
    let oldest : c.total.result - c.len.result ≡ oldest_kept recent.total = omega (arith, c.total.ensures.total, c.total.ensures.kept, c.len.ensures.len) in
    let place : c.saturating_sub-place.result ≡ c.args.from - oldest_kept recent.total = omega (arith, oldest, c.saturating_sub-place.ensures) in
    rw oldest (
      kept_at recent c.args.from None c.saturating_sub-place.result c.in-Some.step.now (sym c.in-Some.ensures) tt (omega (arith, place)),
      λ change is. omega (arith, place, is.later, is.kept),
    )

pub returns-in-None : goal.returns-in-None
returns-in-None c =
    let recent = c.args.recent.now in
    let oldest : c.total.result - c.len.result ≡ oldest_kept recent.total = omega (arith, c.total.ensures.total, c.total.ensures.kept, c.len.ensures.len) in
    let place : c.saturating_sub-place.result ≡ c.args.from - oldest_kept recent.total = omega (arith, oldest, c.saturating_sub-place.ensures) in
    let past : length recent.items ≤ c.saturating_sub-place.result = past_items recent.items c.saturating_sub-place.result (sym c.in-None.ensures) in
    none_past recent c.args.from None c.saturating_sub-place.result past (λ change is. omega (arith, place, is.later, is.kept))
