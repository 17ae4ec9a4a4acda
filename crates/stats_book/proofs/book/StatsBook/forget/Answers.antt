use Rattle.std.proofs.Common.{sym, subst}
use Rattle.stats_book.specs.Stats.{Stats}
use Rattle.stats_book.specs.Standing.{StandsForStats}
use Rattle.stats_book.proofs.Standings.{stands_forgotten}
use Rattle.stats_book.proofs.book.StatsBook.forget.Goals as goal

pub returns-clause-stands : goal.returns-clause-stands
returns-clause-stands c = λ effects effect names h.
    let u = c.remove.ensures.updates in
    stands_forgotten c.self.inside.peers.entries c.remove.new.self.entries effects effect c.args.key.now names u.1 u.2 (subst (λ (s : Stats). StandsForStats s effects) (sym c.self.view_is) h)
