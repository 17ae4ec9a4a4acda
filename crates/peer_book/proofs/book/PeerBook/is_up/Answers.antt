use Rattle.std.proofs.Common.{◌≡◌, Bool, false, sym, subst, rules}
use Rattle.std.specs.Prelude.{◌↔◌, IsTrue}
use Rattle.bmp_specs.specs.PeerUp.{IsUp}
use Rattle.peer_book.specs.Peers.{is_up_at}
use Rattle.peer_book.proofs.Standings.{up_stands}
use Rattle.peer_book.proofs.book.PeerBook.is_up.Goals as goal

pub returns-in-Some-clause-stands : goal.returns-in-Some-clause-stands
returns-in-Some-clause-stands c = λ effects h.
    let is : c.is_up.result ≡ is_up_at c.args.self.now c.args.key.now = search rules in
    subst (λ (b : Bool). IsTrue b ↔ IsUp effects c.args.key.now) (sym is) (up_stands c.args.self.now effects c.args.key.now h)

pub returns-in-None-clause-stands : goal.returns-in-None-clause-stands
returns-in-None-clause-stands c = λ effects h.
    let is : false ≡ is_up_at c.args.self.now c.args.key.now = search rules in
    subst (λ (b : Bool). IsTrue b ↔ IsUp effects c.args.key.now) (sym is) (up_stands c.args.self.now effects c.args.key.now h)
