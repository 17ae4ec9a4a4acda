use Rattle.std.proofs.Common.{◌≡◌, take}
use Rattle.std.specs.List.{AllByRecursion}
use Rattle.route_runs.proofs.sets.have_ids.Given as goal

abbrev pub invariant-loop-key : goal.invariant-loop-key
invariant-loop-key g l = AllByRecursion (λ k. g.K.TableKey.is_marked k ≡ l.ids) (take l.key-index l.keys)
