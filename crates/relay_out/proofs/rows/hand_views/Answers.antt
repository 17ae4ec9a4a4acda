use Rattle.std.proofs.Common.{arith, refl}
use Rattle.relay_out.proofs.Handing.{leads_begin, leads_end, leads_failed, leads_fit, leads_on}
use Rattle.relay_out.proofs.Steps.{views_first, views_over}
use Rattle.relay_out.proofs.rows.hand_views.Goals as goal

pub loop-view-init : goal.loop-view-init
loop-view-init g c = leads_begin _ _ _ refl c.requires

pub loop-view-preserved : goal.loop-view-preserved
loop-view-preserved g c =
    leads_on _ _ _ _ _ _ _ _ c.loop-view.invariant c.in_ok-hand_view.ensures (views_first c.args.info.now c.args.tables.now.tables c.args.key.now c.args.views.now c.loop-view.view-index _ (omega arith))

pub returns-in_err-hand_view : goal.returns-in_err-hand_view
returns-in_err-hand_view g c =
    leads_failed _ _ _ _ _ _ _ _ _ c.loop-view.invariant c.in_err-hand_view.ensures c.from_residual.ensures.1 (views_first c.args.info.now c.args.tables.now.tables c.args.key.now c.args.views.now c.loop-view.view-index _ (omega arith))

pub returns : goal.returns
returns g c = leads_end _ _ _ _ c.loop-view.invariant (views_over c.args.info.now c.args.tables.now.tables c.args.key.now c.args.views.now c.loop-view.view-index c.loop-view-test.false)

pub hand_view-requires : goal.hand_view-requires
hand_view-requires g c = leads_fit _ _ _ _ _ _ c.loop-view.invariant (views_first c.args.info.now c.args.tables.now.tables c.args.key.now c.args.views.now c.loop-view.view-index _ (omega arith))
