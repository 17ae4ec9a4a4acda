use Rattle.std.proofs.Common.{arith, refl}
use Rattle.relay_out.proofs.Handing.{leads_begin, leads_end, leads_failed, leads_fit, leads_on}
use Rattle.relay_out.proofs.Steps.{complete_first, complete_over}
use Rattle.relay_out.proofs.peer.hand_complete.Goals as goal

pub loop-view-init : goal.loop-view-init
loop-view-init g c = leads_begin _ _ _ refl c.requires

pub loop-view-preserved : goal.loop-view-preserved
loop-view-preserved g c =
    leads_on _ _ _ _ _ _ _ _ c.loop-view.invariant c.in_ok-hand_both.ensures (complete_first c.args.book.now c.args.key.now c.args.views.now c.loop-view.view-index _ (omega arith))

pub returns-in_err-hand_both : goal.returns-in_err-hand_both
returns-in_err-hand_both g c =
    leads_failed _ _ _ _ _ _ _ _ _ c.loop-view.invariant c.in_err-hand_both.ensures c.from_residual.ensures.1 (complete_first c.args.book.now c.args.key.now c.args.views.now c.loop-view.view-index _ (omega arith))

pub returns : goal.returns
returns g c = leads_end _ _ _ _ c.loop-view.invariant (complete_over c.args.book.now c.args.key.now c.args.views.now c.loop-view.view-index c.loop-view-test.false)

pub hand_both-requires : goal.hand_both-requires
hand_both-requires g c = leads_fit _ _ _ _ _ _ c.loop-view.invariant (complete_first c.args.book.now c.args.key.now c.args.views.now c.loop-view.view-index _ (omega arith))
