use Rattle.std.proofs.Common.{rules}
use Rattle.stats_book.proofs.CountLaws.{counts_stand}
use Rattle.stats_book.proofs.counts.Counts.add.Goals as goal

pub returns-clause-stands : goal.returns-clause-stands
returns-clause-stands c = counts_stand _ c.args.self.now c.args.more.now (search rules)
