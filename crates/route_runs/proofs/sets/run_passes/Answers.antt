use Rattle.std.proofs.Common.{◌≡◌, subst}
use Rattle.std.specs.List.{AllByRecursion}
use Rattle.route_runs.specs.Rows.{sets_of}
use Rattle.route_runs.specs.Sets.{RowPasses}
use Rattle.route_runs.proofs.Setwise.{rows_pass}
use Rattle.route_runs.proofs.sets.run_passes.Goals as goal

pub returns-then-have_ids : goal.returns-then-have_ids
returns-then-have_ids g c = λ t.
    let P = g.T.SetTest.passes in
    subst (AllByRecursion (RowPasses g.K.TableKey.is_marked c.args.ids P)) c.run.view_is
    (rows_pass g.K.TableKey.is_marked c.args.ids P (sets_of c.run.inside.packs.items) c.run.inside.keys.items c.run.inside.handles.items
    (subst (AllByRecursion (λ k. g.K.TableKey.is_marked k ≡ c.args.ids)) c.deref.ensures.value (c.have_ids.ensures c.if-have_ids.true))
    (subst (λ packs. AllByRecursion (λ sets. AllByRecursion P sets) (sets_of packs)) c.deref-then-have_ids.ensures.value (c.packs_pass.ensures t)))
