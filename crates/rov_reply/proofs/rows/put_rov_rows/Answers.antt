use Rattle.std.proofs.Common.{map, subst, sym}
use Rattle.bmp_specs.specs.Session.{session_effects}
use Rattle.peer_book.specs.Peers.{Peers}
use Rattle.peer_book.specs.Standing.{StandsForPeers}
use Rattle.rov_reply.specs.RovLines.{line_by_peers}
use Rattle.rov_reply.proofs.RovLaws.{lines_are}
use Rattle.rov_reply.proofs.rows.put_rov_rows.Goals as goal

pub returns : goal.returns
returns g c = λ entries stands.
    let (rows, are, writes) = c.put_told_within.ensures entries stands in
    let peers = subst (λ (p : Peers). StandsForPeers p (session_effects entries)) (sym c.peers.ensures) stands.session.books.peers in (
      map (line_by_peers c.args.vrps.now c.peers.result.now c.args.lane) rows,
      lines_are c.args.vrps.now c.peers.result.now c.args.lane c.args.prefix.now entries peers rows are,
      writes,
    )
