use Rattle.query_eval.proofs.RoutersTold.{live_told}
use Rattle.query_eval.proofs.routers.router_state.Goals as goal

pub returns-in-Live : goal.returns-in-Live
returns-in-Live c = live_told c.args.tables.now _ _ _ _ c.in-Live.ensures (λ effects stands. c.count_up.ensures.stands effects (rw c.peers.ensures stands)) c.counts.ensures c.name.ensures c.descr.ensures
