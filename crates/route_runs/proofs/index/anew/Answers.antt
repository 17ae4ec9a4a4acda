use Rattle.std.proofs.Common.{map, subst}
use Rattle.std.specs.Arc.{arc_value}
use Rattle.route_runs.specs.Origins.{attrs_origin, AreAll, IsIndexed}
use Rattle.route_runs.proofs.Indexing.{made_anew}
use Rattle.route_runs.proofs.index.anew.Goals as goal

pub returns : goal.returns
returns g c = subst (λ l. IsIndexed g.K.Ord.cmp g.K.Spot.Ord.cmp g.K.TableKey.spot_of attrs_origin l c.push.new.self) c.runs.view_is
    (made_anew g.K.Ord.cmp g.K.Spot.Ord.cmp g.K.TableKey.spot_of attrs_origin _ c.in_ok-rows.rows c.in_ok-rows.ensures g.met.K.Ord.total g.met.K.RunKey.exact (map arc_value c.runs.inside.runs.items)
    (subst (λ l. AreAll g.K.Ord.cmp g.K.TableKey.spot_of attrs_origin (map arc_value l) c.add_all.new.pairs.items) c.as_slice.ensures.value c.in_ok-add_all.ensures) _ _ c.in_ok-push.ensures.ok)
