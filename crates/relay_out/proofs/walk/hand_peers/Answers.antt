use Rattle.std.proofs.Common.{sym, subst}
use Rattle.std.specs.List.{AllByRecursion}
use Rattle.peer_book.specs.Peers.{Peers}
use Rattle.relay_out.specs.Handed.{Hands}
use Rattle.query_eval.specs.Told.{states_in}
use Rattle.relay_out.proofs.Steps.{items_of_states}
use Rattle.relay_out.proofs.walk.hand_peers.Goals as goal

pub returns : goal.returns
returns g c = subst (λ (ps : Peers). Hands g.T.Takes.of g.T.Takes.took g.T.Takes.stopped (items_of_states c.args.tables.now (states_in ps)) c.args.taker.now c.hand_book.result c.hand_book.new.taker) c.peers.ensures c.hand_book.ensures.hands

pub hand_book-requires : goal.hand_book-requires
hand_book-requires g c = subst (λ (ps : Peers). AllByRecursion g.T.Takes.may (items_of_states c.args.tables.now (states_in ps))) (sym c.peers.ensures) c.requires
