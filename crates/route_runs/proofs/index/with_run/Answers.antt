use Rattle.std.proofs.Common.{subst}
use Rattle.route_runs.specs.Origins.{attrs_origin, IsKnown}
use Rattle.route_runs.proofs.index.with_run.Goals as goal

pub with_both-requires : goal.with_both-requires
with_both-requires g c = subst (IsKnown g.K.Ord.cmp g.K.Spot.Ord.cmp g.K.TableKey.spot_of attrs_origin c.args.runs.now) c.in-Some.is c.requires
