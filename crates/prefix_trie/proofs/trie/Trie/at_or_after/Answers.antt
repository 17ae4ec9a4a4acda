use Rattle.std.proofs.Common.{◌∙◌, ap}
use Rattle.std.specs.List.{slice_get}
use Rattle.std.specs.Map.Iter.{deref_pair}
use Rattle.bmp_specs.specs.Orders.{prefix_cmp}
use Rattle.bmp_specs.proofs.FirstInRange.{first_shown, between-from}
use Rattle.prefix_trie.specs.Cursor.{from_place}
use Rattle.prefix_trie.proofs.trie.Trie.at_or_after.Goals as goal

pub returns-clause-first : goal.returns-clause-first
returns-clause-first g c =
    c.lent.ensures ∙ first_shown deref_pair _ _ _ c.next.ensures.steps
    ∙ ap (λ es. slice_get es 0) (c.range.ensures.between tt ∙ between-from prefix_cmp c.args.place.now _)
    ∙ ap (λ v. slice_get (from_place c.args.place.now v.pairs) 0) c.self.view_is
