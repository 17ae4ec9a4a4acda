use Rattle.std.proofs.Common.{take, drop, sym, subst, arith}
use Rattle.std.specs.List.{AllByRecursion}
use Rattle.std.specs.List.Sorted.{IsStrictlySortedBy}
use Rattle.std.specs.Map.{keys_of}
use Rattle.route_runs.specs.Rows.{sets_of, set_at}
use Rattle.route_runs.specs.Sift.{Fails, IfFront, IsOnward, Passes}
use Rattle.route_runs.proofs.Handles.{keys-rows}
use Rattle.route_runs.proofs.SiftingRows.{onward}
use Rattle.route_runs.proofs.spots.first_passing.Goals as goal

pub returns-clause-first : goal.returns-clause-first
returns-clause-first g c =
    let P = g.T.RouteTest.passes c.args.test.now in
    let n = c.before_passing.result in
    let packs = sets_of c.run.inside.packs.items in
    subst (λ l. IsOnward P l 0 n) c.run.view_is
    (onward packs P c.run.inside.keys.items c.run.inside.handles.items 0 n n (omega arith)
    (subst (λ hs. AllByRecursion (λ h. Fails P (set_at packs h)) (take n hs)) c.deref-2.ensures.value (subst (λ p. AllByRecursion (λ h. Fails P (set_at (sets_of p) h)) (take n c.deref-2.result.now)) c.deref.ensures.value c.before_passing.ensures.fail))
    (subst (λ hs. IfFront (λ h. Passes P (set_at packs h)) (drop n hs)) c.deref-2.ensures.value (subst (λ p. IfFront (λ h. Passes P (set_at (sets_of p) h)) (drop n c.deref-2.result.now)) c.deref.ensures.value c.before_passing.ensures.here)))

pub returns-clause-ordered : goal.returns-clause-ordered
returns-clause-ordered g c = subst (λ l. IsStrictlySortedBy g.K.Ord.cmp (keys_of l)) c.run.view_is (subst (IsStrictlySortedBy g.K.Ord.cmp) (sym (keys-rows (sets_of c.run.inside.packs.items) c.run.inside.keys.items c.run.inside.handles.items c.run.invariant.even)) c.run.invariant.ordered)
