use Rattle.std.proofs.Common.{◌≡◌}
use Rattle.bmp_specs.specs.declared.wire.Family.TheVariants.{V4}
use Rattle.bench.proofs.tables.fill.Given as goal

abbrev pub invariant-loop-number : goal.invariant-loop-number
invariant-loop-number l = l.trie.family ≡ V4
