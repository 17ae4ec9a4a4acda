use Rattle.std.proofs.Common.{◌≡◌, [], ◌∷◌, ◌++◌, sym, subst, rules}
use Rattle.std.specs.Prelude.{OnOk, OnErr}
use Rattle.bmp_specs.specs.Values.{statistic}
use Rattle.stats_book.specs.Stats.{Stats, with_stat}
use Rattle.stats_book.specs.Standing.{StandsForStats}
use Rattle.stats_book.proofs.Setting.{set_ok, set_err, set_stands}
use Rattle.stats_book.proofs.Standings.{stands_set}
use Rattle.stats_book.proofs.book.StatsBook.set.Goals as goal

pub returns-in-Some-clause-ok : goal.returns-in-Some-clause-ok
returns-in-Some-clause-ok c =
    subst (λ (v : Stats). OnOk c.set.result ((c.get_mut.follows.lender c.set.new.self).entries ≡ with_stat v c.args.key c.args.stat)) c.self.view_is
    (set_ok c.self.inside.peers.entries (c.get_mut.follows.lender c.set.new.self).entries c.args.key c.args.stat c.in-Some.stats.now c.set.new.self c.set.result c.in-Some.ensures.ordered c.in-Some.ensures.value c.set.ensures.ok
    (c.get_mut.follows.holds c.set.new.self).0)

pub returns-in-Some-clause-err : goal.returns-in-Some-clause-err
returns-in-Some-clause-err c =
    subst (λ (v : Stats). OnErr c.set.result ((c.get_mut.follows.lender c.set.new.self).entries ≡ v)) c.self.view_is
    (set_err c.self.inside.peers.entries (c.get_mut.follows.lender c.set.new.self).entries c.args.key c.args.stat c.in-Some.stats.now c.set.new.self c.set.result c.in-Some.ensures.value c.set.ensures.err
    (c.get_mut.follows.holds c.set.new.self).0)

pub returns-in-Some-clause-stands : goal.returns-in-Some-clause-stands
returns-in-Some-clause-stands c = set_stands c.args.self.now (c.get_mut.follows.lender c.set.new.self).entries c.args.key c.args.stat c.set.result (returns-in-Some-clause-ok c)

pub returns-clause-stands : goal.returns-clause-stands
returns-clause-stands c = λ effects is_up h.
    let set : c.insert.new.self.entries ≡ with_stat c.args.self.now c.args.key c.args.stat = search rules in
    subst (λ (s : Stats). StandsForStats s (effects ++ statistic c.args.key c.args.stat ∷ [])) (sym set) (stands_set c.args.self.now effects c.args.key c.args.stat is_up h)
