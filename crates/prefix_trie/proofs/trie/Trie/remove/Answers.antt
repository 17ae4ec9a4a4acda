use Rattle.std.proofs.lemmas.Map.Views.{All-map-remove_entry}
use Rattle.prefix_trie.specs.Table.{IsOfFamily}
use Rattle.prefix_trie.proofs.trie.Trie.remove.Goals as goal

pub invariant_of-self : goal.invariant_of-self
invariant_of-self g c = rw c.remove.ensures.entries (All-map-remove_entry _ (λ e. e.0) (IsOfFamily c.self.inside.family) _ c.self.invariant)
