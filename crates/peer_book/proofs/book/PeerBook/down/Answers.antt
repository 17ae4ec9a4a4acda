use Rattle.std.proofs.Common.{◌≡◌, [], ◌∷◌, ◌++◌, sym, ap, ◌∙◌, subst}
use Rattle.bmp_specs.specs.Values.{down}
use Rattle.peer_book.specs.Peers.{Peers, PeerValue, down_peer, with_peer}
use Rattle.peer_book.specs.Standing.{StandsForPeers}
use Rattle.peer_book.proofs.Standings.{stands_down}
use Rattle.peer_book.proofs.book.PeerBook.down.Goals as goal

pub returns-clause-stands : goal.returns-clause-stands
returns-clause-stands c = λ effects h.
    let set : c.insert.new.self.entries ≡ with_peer c.args.self.now c.args.key (down_peer c.args.info) =
    c.in_ok-insert.ensures.entries ∙ ap (λ (p : PeerValue). with_peer c.self.inside.peers.entries c.args.key p) c.new.ensures
    ∙ ap (λ (v : Peers). with_peer v c.args.key (down_peer c.args.info)) c.self.view_is in
    subst (λ (ps : Peers). StandsForPeers ps (effects ++ down c.args.key c.args.info ∷ [])) (sym set) (stands_down c.args.self.now effects c.args.key c.args.info h)
