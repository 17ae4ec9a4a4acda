use Rattle.std.proofs.Common.{[], sym, subst}
use Rattle.peer_book.specs.Peers.{Peers}
use Rattle.peer_book.specs.Standing.{StandsForPeers}
use Rattle.peer_book.proofs.Standings.{stands_empty}
use Rattle.peer_book.proofs.book.PeerBook.new.Goals as goal

pub returns-clause-stands : goal.returns-clause-stands
returns-clause-stands c = subst (λ (ps : Peers). StandsForPeers ps []) (sym c.new.ensures.empty) stands_empty
