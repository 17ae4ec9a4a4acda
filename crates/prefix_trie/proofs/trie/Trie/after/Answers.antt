use Rattle.std.proofs.Common.{◌∙◌, ap}
use Rattle.std.specs.List.{slice_get}
use Rattle.std.specs.Map.Iter.{deref_pair}
use Rattle.bmp_specs.specs.Orders.{prefix_cmp}
use Rattle.bmp_specs.proofs.FirstInRange.{first_shown, between-after}
use Rattle.prefix_trie.specs.Cursor.{pairs_after}
use Rattle.prefix_trie.proofs.trie.Trie.after.Goals as goal

pub returns-in-Some-clause-first : goal.returns-in-Some-clause-first
returns-in-Some-clause-first g c =
    rw c.in-Some.is (c.lent-in-Some.ensures ∙ first_shown deref_pair _ _ _ c.next-in-Some.ensures.steps
    ∙ ap (λ es. slice_get es 0) (c.range.ensures.between tt ∙ between-after prefix_cmp c.in-Some.place.now _)
    ∙ ap (λ v. slice_get (pairs_after c.in-Some.place.now v.pairs) 0) c.self.view_is)
