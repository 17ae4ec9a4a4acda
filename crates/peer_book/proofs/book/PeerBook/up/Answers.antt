use Rattle.std.proofs.Common.{◌≡◌, [], ◌∷◌, ◌++◌, sym, ap, ◌∙◌, subst}
use Rattle.std.specs.Arc.{arc_value}
use Rattle.bmp_specs.specs.Values.{up}
use Rattle.peer_book.specs.Marks.{no_marks}
use Rattle.peer_book.specs.Peers.{Peers, PeerValue, up_peer, with_peer}
use Rattle.peer_book.specs.Standing.{StandsForPeers}
use Rattle.peer_book.proofs.Standings.{stands_up}
use Rattle.peer_book.proofs.book.PeerBook.up.Goals as goal

pub returns-clause-stands : goal.returns-clause-stands
returns-clause-stands c = λ effects h.
    let set : c.insert.new.self.entries ≡ with_peer c.args.self.now c.args.key (up_peer (arc_value c.args.info) no_marks) =
    c.in_ok-insert.ensures.entries ∙ ap (λ (p : PeerValue). with_peer c.self.inside.peers.entries c.args.key p) c.new.ensures
    ∙ ap (λ (v : Peers). with_peer v c.args.key (up_peer (arc_value c.args.info) no_marks)) c.self.view_is in
    subst (λ (ps : Peers). StandsForPeers ps (effects ++ up c.args.key (arc_value c.args.info) ∷ [])) (sym set) (stands_up c.args.self.now effects c.args.key (arc_value c.args.info) h)
