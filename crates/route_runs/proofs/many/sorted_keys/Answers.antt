use Rattle.std.proofs.Common.{sym, subst}
use Rattle.std.specs.List.{Contains}
use Rattle.std.specs.List.Sorted.{IsStrictlySortedBy}
use Rattle.std.proofs.lemmas.List.Filters.{dedup_is}
use Rattle.std.proofs.lemmas.List.Kept.{Contains-dedup, Contains-from_dedup}
use Rattle.std.proofs.lemmas.List.Sorted.{Contains-permutation, IsPermutation-sym}
use Rattle.route_runs.proofs.OneSet.{strict_dedup, exact_eq}
use Rattle.route_runs.proofs.many.sorted_keys.Goals as goal

pub returns : goal.returns
returns g c =
    let E = g.K.PartialEq.eq in
    let laws = g.met.K.Eq.laws in
    let same = exact_eq g.K.Ord.cmp g.met.K.RunKey.exact E g.met.K.Ord.matches_eq in
    let is = dedup_is E c.sort_unstable.new.self.items c.dedup.new.self.items c.dedup.ensures.filtered in
    record {
      ordered = subst (IsStrictlySortedBy g.K.Ord.cmp) (sym is) (strict_dedup g.K.Ord.cmp g.met.K.Ord.total g.met.K.RunKey.exact E same laws.refl c.sort_unstable.new.self.items c.sort_unstable.ensures.sorted);
      same = record {
        to = λ q has. subst (λ l. Contains l q) (sym is) (Contains-dedup laws same c.sort_unstable.new.self.items q (Contains-permutation c.args.keys.items c.sort_unstable.new.self.items q c.sort_unstable.ensures.permutation has));
        from = λ q has. Contains-permutation c.sort_unstable.new.self.items c.args.keys.items q (IsPermutation-sym c.args.keys.items c.sort_unstable.new.self.items c.sort_unstable.ensures.permutation) (Contains-from_dedup E c.sort_unstable.new.self.items q (subst (λ l. Contains l q) is has));
      };
    }
