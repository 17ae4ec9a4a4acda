use Rattle.std.proofs.Common.{◌≡◌, ℕ, ◌+◌, ◌*◌, drop}
use Rattle.prefix_trie.specs.Agreement.{AgreesFor}
use Rattle.prefix_trie.proofs.bits.shared_bits.Given as goal

abbrev pub invariant-loop-i : goal.invariant-loop-i
invariant-loop-i l = (l.bits ≡ 8 * l.i) × ((n : ℕ) → AgreesFor (drop l.i l.a) (drop l.i l.b) n → AgreesFor l.a l.b (l.bits + n))
