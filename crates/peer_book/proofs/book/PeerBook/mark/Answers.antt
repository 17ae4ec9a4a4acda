use Rattle.std.proofs.Common.{◌≡◌, [], ◌∷◌, ◌++◌, sym, ap, ◌∙◌, subst}
use Rattle.std.specs.Bool.{OnFalse}
use Rattle.std.specs.BTreeMap.{BTreeMap}
use Rattle.bmp_specs.specs.Values.{KeyValue, mark}
use Rattle.peer_book.specs.Peers.{Peers, PeerValue, with_mark}
use Rattle.peer_book.specs.Standing.{StandsForPeers}
use Rattle.peer_book.specs.contracts.book.PeerBook.{the_view}
use Rattle.peer_book.proofs.Marking.{on_false, marked_there, marked_nowhere, marked_down}
use Rattle.peer_book.proofs.Standings.{stands_marked}
use Rattle.peer_book.proofs.book.PeerBook.mark.Goals as goal
use Rattle.peer_book.proofs.book.PeerBook.mark.Goals.{in-Some, in-None}

pub returns-clause-unchanged : goal.returns-clause-unchanged
returns-clause-unchanged c =
    subst (λ (v : Peers). OnFalse c.match-get_mut.result (the_view c.match-get_mut.self-inside ≡ v)) c.self.view_is (elim c.match-get_mut.branch [
      | in-Some w ↦ marked_down c.self.inside.peers.entries (the_view c.match-get_mut.self-inside) c.args.key.now c.args.view c.args.family c.match-get_mut.result w.in-Some.peer.now w.mark.new.self (w.result-is ∙ w.mark.ensures.up) w.in-Some.ensures.value
          w.mark.ensures.marks (ap the_view w.self-inside-is ∙ (c.get_mut.follows.holds w.mark.new.self).0)
      | in-None w ↦ on_false c.match-get_mut.result (ap the_view w.self-inside-is ∙ ap (λ (m : BTreeMap KeyValue PeerValue). m.entries) c.get_mut.follows.holds-at-none)
    ])

pub returns-clause-stands : goal.returns-clause-stands
returns-clause-stands c = λ effects h.
    let marked : the_view c.match-get_mut.self-inside ≡ with_mark (the_view c.self.inside) c.args.key.now c.args.view c.args.family = elim c.match-get_mut.branch [
      | in-Some w ↦ marked_there c.self.inside.peers.entries (the_view c.match-get_mut.self-inside) c.args.key.now c.args.view c.args.family w.in-Some.peer.now w.mark.new.self w.in-Some.ensures.value
          w.mark.ensures.marks (ap the_view w.self-inside-is ∙ (c.get_mut.follows.holds w.mark.new.self).0)
      | in-None w ↦ marked_nowhere c.self.inside.peers.entries (the_view c.match-get_mut.self-inside) c.args.key.now c.args.view c.args.family w.in-None.ensures.value (ap the_view w.self-inside-is ∙ ap (λ (m : BTreeMap KeyValue PeerValue). m.entries) c.get_mut.follows.holds-at-none)
    ] in
    subst (λ (ps : Peers). StandsForPeers ps (effects ++ mark c.args.key.now c.args.view c.args.family ∷ [])) (sym (marked ∙ ap (λ (v : Peers). with_mark v c.args.key.now c.args.view c.args.family) c.self.view_is))
    (stands_marked c.args.self.now effects c.args.key.now c.args.view c.args.family h)
