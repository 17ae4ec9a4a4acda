use Rattle.std.proofs.Common.{◌≡◌, true, false, refl, sym, ◌∙◌, subst}
use Rattle.std.specs.Arc.{arc_value}
use Rattle.std.proofs.lemmas.Result.{on_ok_weaker}
use Rattle.bmp_specs.specs.Values.{up, down}
use Rattle.peer_book.specs.Peers.{Peers}
use Rattle.peer_book.specs.Standing.{StandsForPeers}
use Rattle.router_tables.proofs.BookSteps.{seen, still_other, books_named, books_marked, books_counted, books_unheard, books_renamed, books_described}
use Rattle.router_tables.proofs.books.Books.take.Goals as goal

pub returns-in_ok-bring_up-in-Up : goal.returns-in_ok-bring_up-in-Up
returns-in_ok-bring_up-in-Up c = rw c.in-Up.is (on_ok_weaker c.forget.result (λ forgets effects h.
    let was = seen _ _ c.self.view_is effects h in
    books_named _ _ effects (up c.in-Up.key (arc_value c.in-Up.info)) refl refl refl refl (c.in_ok-bring_up-in-Up.ensures effects was.peers) (forgets effects _ refl was.stats) was) c.forget.ensures)

pub returns-in_ok-take_down-in-Down : goal.returns-in_ok-take_down-in-Down
returns-in_ok-take_down-in-Down c = rw c.in-Down.is (on_ok_weaker c.forget-in-Down.result (λ forgets effects h.
    let was = seen _ _ c.self.view_is effects h in
    books_named _ _ effects (down c.in-Down.key c.in-Down.info) refl refl refl refl (c.in_ok-take_down-in-Down.ensures effects was.peers) (forgets effects _ refl was.stats) was) c.forget-in-Down.ensures)

pub returns-in-Mark : goal.returns-in-Mark
returns-in-Mark c = rw c.in-Mark.is (on_ok_weaker c.set_mark.result (λ marks effects h.
    let was = seen _ _ c.self.view_is effects h in
    books_marked _ _ effects _ _ _ (marks effects was.peers) was) c.set_mark.ensures)

pub returns-then-is_up : goal.returns-then-is_up
returns-then-is_up c = rw c.in-Statistic.is (on_ok_weaker c.set_statistic.result (λ sets effects h.
    let was = seen _ _ c.self.view_is effects h in
    let peers = subst (λ (p : Peers). StandsForPeers p effects) (sym c.deref.ensures) was.peers in
    books_counted _ _ effects _ _ (sets effects ((c.is_up.ensures.stands effects peers).0 c.if-is_up.true) was.stats) was) c.set_statistic.ensures)

pub returns-else-is_up : goal.returns-else-is_up
returns-else-is_up c = rw c.in-Statistic.is (λ effects h.
    let was = seen _ _ c.self.view_is effects h in
    let peers = subst (λ (p : Peers). StandsForPeers p effects) (sym c.deref.ensures) was.peers in
    books_unheard c.args.self.now effects _ _ (λ u. let e : false ≡ true = sym c.if-is_up.false ∙ (c.is_up.ensures.stands effects peers).1 u in cc) h)

pub returns-in_ok-self-inside-in-Name : goal.returns-in_ok-self-inside-in-Name
returns-in_ok-self-inside-in-Name c = rw c.in-Name.is (λ effects h.
    books_renamed _ _ effects _ (c.in_ok-self-inside-in-Name.ensures.ok ∙ c.in_ok-copy-in-Name.ensures) (seen _ _ c.self.view_is effects h))

pub returns-in_ok-self-inside-in-Descr : goal.returns-in_ok-self-inside-in-Descr
returns-in_ok-self-inside-in-Descr c = rw c.in-Descr.is (λ effects h.
    books_described _ _ effects _ (c.in_ok-self-inside-in-Descr.ensures.ok ∙ c.in_ok-copy-in-Descr.ensures) (seen _ _ c.self.view_is effects h))

pub returns-in_default : goal.returns-in_default
returns-in_default c = still_other c.args.self.now c.args.effect.now c.in_default.not-Up c.in_default.not-Down c.in_default.not-Mark c.in_default.not-Statistic c.in_default.not-Name c.in_default.not-Descr
