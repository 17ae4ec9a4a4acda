use Rattle.std.proofs.Common.{◌≡◌, Bool, false, sym, subst, rules}
use Rattle.std.specs.Prelude.{◌↔◌, IsTrue}
use Rattle.bmp_specs.specs.Complete.{IsComplete}
use Rattle.peer_book.specs.Peers.{is_complete_at}
use Rattle.peer_book.proofs.book.PeerBook.is_complete.Goals as goal

pub returns-in-Some-clause-stands : goal.returns-in-Some-clause-stands
returns-in-Some-clause-stands c = λ effects h.
    let is : c.is_complete.result ≡ is_complete_at c.args.self.now c.args.key.now c.args.view c.args.family = search rules in
    subst (λ (b : Bool). IsTrue b ↔ IsComplete effects c.args.key.now c.args.view c.args.family) (sym is) (h.complete c.args.key.now c.args.view c.args.family)

pub returns-in-None-clause-stands : goal.returns-in-None-clause-stands
returns-in-None-clause-stands c = λ effects h.
    let is : false ≡ is_complete_at c.args.self.now c.args.key.now c.args.view c.args.family = search rules in
    subst (λ (b : Bool). IsTrue b ↔ IsComplete effects c.args.key.now c.args.view c.args.family) (sym is) (h.complete c.args.key.now c.args.view c.args.family)
