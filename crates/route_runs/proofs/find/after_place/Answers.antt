use Rattle.std.proofs.Common.{◌+◌, sym, subst}
use Rattle.route_runs.specs.Places.{IsAfterPoint}
use Rattle.route_runs.proofs.Searching.{point_found, point_missing}
use Rattle.route_runs.proofs.find.after_place.Goals as goal

pub returns-in-Ok : goal.returns-in-Ok
returns-in-Ok g c = subst (λ p. IsAfterPoint g.K.Ord.cmp p c.args.keys.now (c.in-Ok.at + 1)) (sym c.in-Some.is)
    (point_found g.K.Ord.cmp g.met.K.Ord.total g.met.K.RunKey.exact c.args.keys.now c.requires c.in-Some.place c.in-Ok.at c.in-Ok.ensures.bound c.in-Ok.ensures.ok)

pub returns-in-Err : goal.returns-in-Err
returns-in-Err g c = subst (λ p. IsAfterPoint g.K.Ord.cmp p c.args.keys.now c.in-Err.at) (sym c.in-Some.is)
    (point_missing g.K.Ord.cmp g.met.K.Ord.total g.met.K.RunKey.exact c.args.keys.now c.requires c.in-Some.place c.in-Err.at c.in-Err.ensures.bound c.in-Err.ensures.position)
