use Rattle.std.proofs.Common.{[], Option, subst}
use Rattle.std.specs.Prelude.{unwrap_or}
use Rattle.std.specs.List.Sorted.{IsStrictlySortedBy}
use Rattle.std.specs.Map.{keys_of}
use Rattle.bmp_specs.specs.StatKind.{kind_cmp}
use Rattle.stats_book.specs.Stats.{Stats, PeerStats, stats_at}
use Rattle.stats_book.proofs.book.StatsBook.after.Goals as goal

pub returns-in-None-clause-ordered : goal.returns-in-None-clause-ordered
unfolding IsStrictlySortedBy
returns-in-None-clause-ordered c =
    subst (λ (s : Stats). IsStrictlySortedBy kind_cmp (keys_of (stats_at s c.args.key.now))) c.self.view_is
    (subst (λ (o : Option PeerStats). IsStrictlySortedBy kind_cmp (keys_of (unwrap_or o []))) c.in-None.ensures.value tt)
