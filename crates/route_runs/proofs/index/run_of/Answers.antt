use Rattle.std.specs.Arc.{arc_value}
use Rattle.std.proofs.lemmas.Result.{IfOk-weaker}
use Rattle.route_runs.specs.Origins.{HasPairs}
use Rattle.route_runs.proofs.Indexing.{has_pairs}
use Rattle.route_runs.proofs.index.run_of.Goals as goal

pub returns-in-Ok : goal.returns-in-Ok
returns-in-Ok g c = IfOk-weaker c.many.result _ (HasPairs g.S.Ord.cmp c.args.pairs.items) (λ r all. has_pairs g.S.Ord.cmp c.args.pairs.items (arc_value c.in-Ok.unit) r all) c.many.ensures
