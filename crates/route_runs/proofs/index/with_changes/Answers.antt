use Rattle.std.proofs.Common.{sym, subst}
use Rattle.std.proofs.lemmas.Result.{IfOk-weaker}
use Rattle.route_runs.specs.Layers.{SaysTheSame}
use Rattle.route_runs.specs.Origins.{attrs_origin}
use Rattle.route_runs.specs.Runs.{IsChanged}
use Rattle.route_runs.proofs.Contents.{changed_by, changed_by_none}
use Rattle.route_runs.proofs.Indexing.{same_known}
use Rattle.route_runs.proofs.index.with_changes.Goals as goal

pub returns-in-Some-clause-changed : goal.returns-in-Some-clause-changed
returns-in-Some-clause-changed g c =
    let same = subst (SaysTheSame g.K.Ord.cmp c.args.changes) c.in-Some.is c.in_ok-rows.ensures in
    IfOk-weaker c.with_run.result _ (λ r. IsChanged g.K.Ord.cmp c.args.runs.now c.args.changes r.0) (λ r h. changed_by g.K.Ord.cmp c.args.runs.now r.0 c.in-Some.run' c.args.changes same h) c.with_run.ensures.changed

pub returns-in-None-clause-changed : goal.returns-in-None-clause-changed
returns-in-None-clause-changed g c = IfOk-weaker c.share_both.result _ (λ r. IsChanged g.K.Ord.cmp c.args.runs.now c.args.changes r.0) (λ r e. subst (IsChanged g.K.Ord.cmp c.args.runs.now c.args.changes) (sym e)
    (changed_by_none g.K.Ord.cmp c.args.runs.now c.args.changes c.see_order.ensures (subst (SaysTheSame g.K.Ord.cmp c.args.changes) c.in-None.is c.in_ok-rows.ensures))) c.share_both.ensures.runs

pub returns-in-None-clause-known : goal.returns-in-None-clause-known
returns-in-None-clause-known g c = same_known g.K.Ord.cmp g.K.Spot.Ord.cmp g.K.TableKey.spot_of attrs_origin c.args.runs.now c.args.index.now c.share_both.result (λ r. r.0) (λ r. r.1) c.share_both.ensures.runs c.share_both.ensures.index c.requires
