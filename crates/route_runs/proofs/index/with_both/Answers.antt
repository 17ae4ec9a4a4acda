use Rattle.std.proofs.Common.{subst}
use Rattle.route_runs.specs.Keys.{pair_cmp}
use Rattle.route_runs.specs.Origins.{attrs_origin}
use Rattle.route_runs.specs.Runs.{IsChanged}
use Rattle.route_runs.proofs.Origins.{both_grown}
use Rattle.route_runs.proofs.index.with_both.Goals as goal

pub kept_short-requires : goal.kept_short-requires
kept_short-requires g c =
    both_grown g.K.Ord.cmp g.K.Spot.Ord.cmp g.K.TableKey.spot_of attrs_origin c.args.runs.now c.args.run c.args.index.now c.push.new.self c.in_ok-pairs.pairs c.requires c.in_ok-pairs.ensures
    (subst (λ l. IsChanged (pair_cmp g.K.Spot.Ord.cmp) l c.in_ok-pairs.pairs c.push.new.self) c.in_ok-new_index.ensures c.in_ok-push.ensures.ok) c.in_ok-new_runs.new_runs c.in_ok-new_runs.ensures
