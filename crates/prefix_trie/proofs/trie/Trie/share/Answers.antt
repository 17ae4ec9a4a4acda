use Rattle.prefix_trie.proofs.Alike.{keys-alike}
use Rattle.prefix_trie.proofs.trie.Trie.share.Goals as goal

pub invariant_of-result : goal.invariant_of-result
invariant_of-result g c = rw (keys-alike g.T.Share.alike _ _ c.in-Ok.ensures.cases) c.self.invariant
