use Rattle.std.proofs.Common.{subst, Some}
use Rattle.route_runs.specs.Origins.{has_spot, IsFirstSpot}
use Rattle.route_runs.proofs.Origins.{skip_to}
use Rattle.route_runs.proofs.origin.skipped_by.Goals as goal

pub returns-in-Some-clause-skip : goal.returns-in-Some-clause-skip
returns-in-Some-clause-skip g c =
    let has = has_spot g.K.Spot.Ord.cmp c.args.asn c.args.index.now.pairs in
    skip_to g.K.Ord.cmp g.met.K.Ord.total g.met.K.RunKey.exact g.K.Spot.Ord.cmp g.K.TableKey.spot_of g.K.TableKey.is_key g.met.K.TableKey.spots_rise has c.args.key c.requires c.in-Some.spot _
    (subst (λ s. IsFirstSpot g.K.Spot.Ord.cmp s has (Some c.in-Some.spot)) c.spot-spot.ensures c.in-Some.ensures.next) c.reached.ensures
