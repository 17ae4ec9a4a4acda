use Rattle.std.proofs.Common.{map, subst}
use Rattle.std.specs.Arc.{arc_value}
use Rattle.std.specs.List.Sorted.{IsStrictlySortedBy}
use Rattle.std.specs.Map.{keys_of}
use Rattle.route_runs.proofs.Contents.{rising-contents}
use Rattle.route_runs.proofs.runs.Runs.see_order.Goals as goal

pub returns : goal.returns
returns g c = subst (λ l. IsStrictlySortedBy g.K.Ord.cmp (keys_of l)) c.self.view_is (rising-contents g.K.Ord.cmp g.met.K.Ord.total g.met.K.RunKey.exact (map arc_value c.self.inside.runs.items))
