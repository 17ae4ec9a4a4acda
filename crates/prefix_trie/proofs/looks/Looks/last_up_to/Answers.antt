use Rattle.std.specs.Map.Iter.{deref_pair}
use Rattle.prefix_trie.proofs.LastUpTo.{last_up_to}
use Rattle.prefix_trie.proofs.looks.Looks.last_up_to.Goals as goal

pub returns-clause-last : goal.returns-clause-last
returns-clause-last g c =
    rw (← c.self.view_is, c.lent.ensures) (last_up_to deref_pair c.self.inside.pairs.now c.args.place.now _ _ _ c.range.ensures.ordered (c.range.ensures.in_range tt) c.next_back.ensures.steps)
