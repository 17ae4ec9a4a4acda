use Rattle.query_eval.proofs.Leading.{puts_own}
use Rattle.query_eval.proofs.PeersTold.{are_peer_lines, peer_lines_one}
use Rattle.query_eval.proofs.peers.put_peers.Goals as goal

pub returns : goal.returns
returns g c =
    let router = c.args.router in
    let peer = c.args.peer.now in
    let lane = c.args.lane in
    puts_own _ _ _ _ _ _ (λ entries stands. are_peer_lines router peer lane entries _ c.put_book.ensures.ordered (rw c.peers.ensures stands.session.books.peers)) (λ entries. peer_lines_one router peer lane entries) c.put_book.ensures.lines
