use Rattle.std.proofs.Common.{take}
use Rattle.std.specs.List.{AllByRecursion}
use Rattle.route_runs.specs.Rows.{sets_of}
use Rattle.route_runs.proofs.sets.packs_pass.Given as goal

abbrev pub invariant-loop-pack : goal.invariant-loop-pack
invariant-loop-pack g l = AllByRecursion (λ sets. AllByRecursion g.T.SetTest.passes sets) (sets_of (take l.pack-index l.packs))
