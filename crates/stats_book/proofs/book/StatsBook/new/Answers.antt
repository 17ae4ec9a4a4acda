use Rattle.std.proofs.Common.{[], sym, subst}
use Rattle.stats_book.specs.Stats.{Stats}
use Rattle.stats_book.specs.Standing.{StandsForStats}
use Rattle.stats_book.proofs.Standings.{stands_empty}
use Rattle.stats_book.proofs.book.StatsBook.new.Goals as goal

pub returns-clause-stands : goal.returns-clause-stands
returns-clause-stands c = subst (λ (stats : Stats). StandsForStats stats []) (sym c.new.ensures.empty) stands_empty
