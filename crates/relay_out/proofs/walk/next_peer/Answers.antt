use Rattle.std.proofs.Common.{Some, ◌∙◌}
use Rattle.query_eval.proofs.PeerSteps.{first_state, states_ordered}
use Rattle.relay_out.proofs.walk.next_peer.Goals as goal

pub returns-in-None-clause-ordered : goal.returns-in-None-clause-ordered
returns-in-None-clause-ordered c = states_ordered c.args.book.now c.after.ensures.ordered

pub returns-in-Some-clause-first : goal.returns-in-Some-clause-first
returns-in-Some-clause-first c = c.after-in-Some.ensures.first ∙ rw c.in-Some.is (first_state (Some c.in-Some.place) c.args.book.now)

pub returns-in-Some-clause-ordered : goal.returns-in-Some-clause-ordered
returns-in-Some-clause-ordered c = states_ordered c.args.book.now c.after-in-Some.ensures.ordered
