use Rattle.std.proofs.Common.{refl, sym, ap, subst, ◌∙◌}
use Rattle.bmp_specs.specs.Session.{session_effects}
use Rattle.peer_book.specs.Peers.{Peers}
use Rattle.peer_book.specs.Standing.{StandsForPeers}
use Rattle.router_tables.specs.Books.{BooksValue}
use Rattle.router_tables.proofs.BookSteps.{seen}
use Rattle.router_tables.proofs.LastSteps.{left_present}
use Rattle.router_tables.proofs.books.Books.left.Goals as goal

pub returns : goal.returns
returns c entries is counted told =
    left_present _ c.args.self.now c.args.counts entries
    (c.count_up.ensures.stands (session_effects entries) (subst (λ (p : Peers). StandsForPeers p (session_effects entries)) (sym c.deref.ensures) (seen _ _ c.self.view_is (session_effects entries) told).peers)) refl (c.in_ok-try_clone.ensures ∙ ap (λ (b : BooksValue). b.name) c.self.view_is)
    (c.in_ok-try_clone-2.ensures ∙ ap (λ (b : BooksValue). b.description) c.self.view_is) is counted told
