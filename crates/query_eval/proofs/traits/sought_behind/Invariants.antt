use Rattle.std.proofs.Common.{◌≡◌, ◌++◌, List, ℕ, drop}
use Rattle.query_eval.specs.TraitTests.{stand_in}
use Rattle.query_eval.proofs.traits.sought_behind.Given as goal

abbrev pub invariant-loop-number : goal.invariant-loop-number
invariant-loop-number l = (more : List ℕ) → stand_in l.sought (l.numbers ++ more) ≡ stand_in l.left (drop l.number-index l.numbers ++ more)
