use Rattle.std.proofs.Common.{◌+◌, length, slice_index_or, take, drop, sym, ap, subst, arith}
use Rattle.std.specs.List.{AllByRecursion}
use Rattle.route_runs.specs.Rows.{sets_of, set_at}
use Rattle.route_runs.specs.Sift.{Fails, IfFront, IsOnward, Passes}
use Rattle.route_runs.proofs.SiftingRows.{onward, passes_there, there}
use Rattle.route_runs.proofs.spots.next_passing.Goals as goal

pub between_passing-between-requires-clause-there : goal.between_passing-between-requires-clause-there
between_passing-between-requires-clause-there g c =
    let lt = there (sets_of c.run.inside.packs.items) c.run.inside.keys.items c.run.inside.handles.items c.args.run.now c.args.at c.run.invariant.even c.run.view_is c.requires.there in
    omega (arith, lt, c.run.invariant.even, ap length c.deref-2.ensures.value)

pub between_passing-between-requires-clause-here : goal.between_passing-between-requires-clause-here
between_passing-between-requires-clause-here g c =
    let P = g.T.RouteTest.passes c.args.test.now in
    let packs = sets_of c.run.inside.packs.items in
    let lt = there packs c.run.inside.keys.items c.run.inside.handles.items c.args.run.now c.args.at c.run.invariant.even c.run.view_is c.requires.there in
    subst (λ p. Passes P (set_at (sets_of p) (slice_index_or c.deref-2.result.now c.args.at 0))) (sym c.deref.ensures.value)
    (subst (λ hs. Passes P (set_at packs (slice_index_or hs c.args.at 0))) (sym c.deref-2.ensures.value)
    (passes_there packs P c.run.inside.keys.items c.run.inside.handles.items c.args.at c.run.invariant.even lt
    (subst (λ l. IfFront (λ e. Passes P e.1) (drop c.args.at l)) (sym c.run.view_is) c.requires.here)))

pub returns : goal.returns
returns g c =
    let P = g.T.RouteTest.passes c.args.test.now in
    let n = c.between_passing-between.result in
    let packs = sets_of c.run.inside.packs.items in
    subst (λ l. IsOnward P l (c.args.at + 1) (c.args.at + 1 + n)) c.run.view_is
    (onward packs P c.run.inside.keys.items c.run.inside.handles.items (c.args.at + 1) n (c.args.at + 1 + n) (omega arith)
    (subst (λ hs. AllByRecursion (λ h. Fails P (set_at packs h)) (take n (drop (c.args.at + 1) hs))) c.deref-2.ensures.value (subst (λ p. AllByRecursion (λ h. Fails P (set_at (sets_of p) h)) (take n (drop (c.args.at + 1) c.deref-2.result.now))) c.deref.ensures.value c.between_passing-between.ensures.fail))
    (subst (λ hs. IfFront (λ h. Passes P (set_at packs h)) (drop n (drop (c.args.at + 1) hs))) c.deref-2.ensures.value (subst (λ p. IfFront (λ h. Passes P (set_at (sets_of p) h)) (drop n (drop (c.args.at + 1) c.deref-2.result.now))) c.deref.ensures.value c.between_passing-between.ensures.here)))
