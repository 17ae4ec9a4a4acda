use Rattle.std.proofs.Common.{length, sym, subst}
use Rattle.route_runs.specs.Places.{IsBeforePoint}
use Rattle.route_runs.proofs.Searching.{before_none, before_found, before_missing}
use Rattle.route_runs.proofs.back.before_place.Goals as goal

pub returns-in-None : goal.returns-in-None
returns-in-None g c = subst (λ p. IsBeforePoint g.K.Ord.cmp p c.args.keys.now (length c.args.keys.now)) (sym c.in-None.is) (before_none g.K.Ord.cmp g.met.K.Ord.total g.met.K.RunKey.exact c.args.keys.now)

pub returns-in-Ok : goal.returns-in-Ok
returns-in-Ok g c = subst (λ p. IsBeforePoint g.K.Ord.cmp p c.args.keys.now c.in-Ok.at) (sym c.in-Some.is)
    (before_found g.K.Ord.cmp g.met.K.Ord.total g.met.K.RunKey.exact c.args.keys.now c.requires c.in-Some.place c.in-Ok.at c.in-Ok.ensures.bound c.in-Ok.ensures.ok)

pub returns-in-Err : goal.returns-in-Err
returns-in-Err g c = subst (λ p. IsBeforePoint g.K.Ord.cmp p c.args.keys.now c.in-Err.at) (sym c.in-Some.is)
    (before_missing g.K.Ord.cmp g.met.K.Ord.total g.met.K.RunKey.exact c.args.keys.now c.requires c.in-Some.place c.in-Err.at c.in-Err.ensures.bound c.in-Err.ensures.position)
