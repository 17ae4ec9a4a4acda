use Rattle.std.proofs.Common.{refl, sym, ap}
use Rattle.relay_out.proofs.Handing.{leads_begin, leads_end, leads_failed, leads_fit, leads_on}
use Rattle.query_eval.proofs.PeerSteps.{fewer, next_state}
use Rattle.relay_out.proofs.Steps.{items_of_states, states_first}
use Rattle.query_eval.proofs.Walking.{none_left}
use Rattle.relay_out.proofs.walk.hand_book.Goals as goal

pub loop-line-init : goal.loop-line-init
loop-line-init g c = leads_begin _ _ _ refl c.requires

pub loop-line-smaller : goal.loop-line-smaller
loop-line-smaller g c = fewer _ _ _ (next_state c.loop-line.place c.args.book.now _ c.next_peer.ensures.ordered c.in-Some.ensures.first)

pub loop-line-preserved : goal.loop-line-preserved
loop-line-preserved g c =
    leads_on _ _ _ _ _ _ _ _ c.loop-line.invariant c.in_ok-hand_line.ensures
    (states_first c.args.tables.now _ _ _ (next_state c.loop-line.place c.args.book.now _ c.next_peer.ensures.ordered c.in-Some.ensures.first))

pub returns-in_err-hand_line-clause-hands : goal.returns-in_err-hand_line-clause-hands
returns-in_err-hand_line-clause-hands g c =
    leads_failed _ _ _ _ _ _ _ _ _ c.loop-line.invariant c.in_err-hand_line.ensures c.from_residual.ensures.1
    (states_first c.args.tables.now _ _ _ (next_state c.loop-line.place c.args.book.now _ c.next_peer.ensures.ordered c.in-Some.ensures.first))

pub returns-clause-hands : goal.returns-clause-hands
returns-clause-hands g c = leads_end _ _ _ _ c.loop-line.invariant (ap (items_of_states c.args.tables.now) (none_left _ (sym c.in_default.ensures.first)))

pub hand_line-requires : goal.hand_line-requires
hand_line-requires g c =
    leads_fit _ _ _ _ _ _ c.loop-line.invariant (states_first c.args.tables.now _ _ _ (next_state c.loop-line.place c.args.book.now _ c.next_peer.ensures.ordered c.in-Some.ensures.first))
