use Rattle.std.proofs.Common.{◌∙◌, ap, rules}
use Rattle.std.proofs.lemmas.Fn.{dedup_same}
use Rattle.std.proofs.lemmas.List.Sorted.{answers_always}
use Rattle.route_runs.specs.Override.{value_at}
use Rattle.route_runs.proofs.Listing.{last_ordered, last_values}
use Rattle.route_runs.proofs.OneSet.{exact_eq}
use Rattle.route_runs.proofs.listed.sorted_rows.Goals as goal

pub returns-clause-ordered : goal.returns-clause-ordered
returns-clause-ordered g c =
    let E = g.K.PartialEq.eq in
    let same = exact_eq g.K.Ord.cmp g.met.K.RunKey.exact E g.met.K.Ord.matches_eq in
    let kept = dedup_same _ (λ p q. E p.0 q.0) _ (λ x y b f' x' y' k. search rules) _ _ c.dedup_by_key.ensures.filtered in
    last_ordered g.K.Ord.cmp g.met.K.Ord.total g.met.K.RunKey.exact E same g.met.K.Eq.laws.refl c.reverse.new.self.items c.sort_by_key.new.self.items c.dedup_by_key.new.self.items kept
    (c.in_ok-sort_by_key.ensures.sorted (λ e. e.0) (answers_always _ _ _ (λ f a r g h. search rules)))

pub returns-clause-values : goal.returns-clause-values
returns-clause-values g c q =
    let E = g.K.PartialEq.eq in
    let same = exact_eq g.K.Ord.cmp g.met.K.RunKey.exact E g.met.K.Ord.matches_eq in
    let kept = dedup_same _ (λ p q. E p.0 q.0) _ (λ x y b f' x' y' k. search rules) _ _ c.dedup_by_key.ensures.filtered in
    last_values g.K.Ord.cmp g.met.K.Ord.total g.met.K.RunKey.exact E same g.met.K.Eq.laws.refl c.reverse.new.self.items c.sort_by_key.new.self.items c.dedup_by_key.new.self.items kept
    (c.sort_by_key.ensures.stable (λ e. e.0) (answers_always _ _ _ (λ f a r g h. search rules))) q
    ∙ ap (value_at g.K.Ord.cmp q) c.reverse.ensures.items
