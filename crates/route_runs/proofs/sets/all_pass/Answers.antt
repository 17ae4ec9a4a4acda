use Rattle.std.proofs.Common.{map, subst}
use Rattle.std.specs.Arc.{arc_value}
use Rattle.std.specs.List.{AllByRecursion}
use Rattle.route_runs.specs.Sets.{PairPasses, RowPasses}
use Rattle.route_runs.proofs.Setwise.{contents_pass}
use Rattle.route_runs.proofs.sets.all_pass.Goals as goal

pub returns : goal.returns
returns g c = λ t.
    let marked = g.K.TableKey.is_marked in
    let P = g.T.SetTest.passes in
    subst (AllByRecursion (PairPasses marked c.args.ids P)) c.runs.view_is
    (contents_pass marked c.args.ids P g.K.Ord.cmp (map arc_value c.runs.inside.runs.items)
    (subst (λ l. AllByRecursion (λ rows. AllByRecursion (RowPasses marked c.args.ids P) rows) (map arc_value l)) c.as_slice.ensures.value (c.runs_pass.ensures t)))
