use Rattle.std.proofs.Common.{◌≡◌, ◌++◌, take}
use Rattle.route_runs.specs.Rows.{sets_of}
use Rattle.route_runs.proofs.packs.add_packs.Given as goal

abbrev pub invariant-loop-pack : goal.invariant-loop-pack
invariant-loop-pack g l = sets_of l.out.items ≡ sets_of l.initial.out.items ++ sets_of (take l.pack-index l.packs)
