use Rattle.std.proofs.lemmas.Result.{IfOk-weaker}
use Rattle.route_runs.specs.Origins.{attrs_origin, Covers}
use Rattle.route_runs.proofs.Indexing.{covered_by}
use Rattle.route_runs.proofs.index.pairs_of.Goals as goal

pub returns : goal.returns
returns g c = IfOk-weaker c.run_of.result _ (Covers g.K.Ord.cmp g.K.Spot.Ord.cmp g.K.TableKey.spot_of attrs_origin c.args.run.now) (λ r has. covered_by g.K.Ord.cmp g.K.Spot.Ord.cmp g.K.TableKey.spot_of attrs_origin _ r has c.args.run.now c.in_ok-add_pairs.ensures.added) c.run_of.ensures
