use Rattle.std.proofs.Common.{◌≡◌, ◌+◌, ℕ, List, [], ◌∷◌, ◌++◌, length, ap, sym, subst, ◌∙◌}
use Rattle.std.proofs.lemmas.List.{length_push}
use Rattle.rov_table.specs.Index.{AreParents}
use Rattle.rov_table.proofs.Walk.{entry_after, parent_at, parents_push}
use Rattle.rov_table.proofs.table.parents_of.Goals as goal

pub nearest-parent-requires-clause-before : goal.nearest-parent-requires-clause-before
nearest-parent-requires-clause-before c = entry_after c.args.sorted.now c.requires.exact c.requires.ordered c.loop-i.i c.index-sorted-i.result c.loop-i-test.true

pub loop-i-preserved : goal.loop-i-preserved
loop-i-preserved c =
    let parents = c.loop-i.parents.items in
    let parent = c.nearest-parent.result in
    let items : c.push.new.self.items ≡ parents ++ (parent ∷ []) = rw c.if-is_err.ensures.negation at c.push.ensures.items in
    let is = parent_at c.args.sorted.now c.loop-i.i parent c.index-sorted-i.result c.loop-i-test.true c.nearest-parent.ensures in
    subst (λ (l : List ℕ). AreParents c.args.sorted.now l × (length l ≡ c.loop-i.i + 1)) (sym items)
    (parents_push c.args.sorted.now parents c.loop-i.i parent c.loop-i.invariant.1 c.loop-i.invariant.0 is, length_push parents parent ∙ ap (λ (n : ℕ). n + 1) c.loop-i.invariant.1)
