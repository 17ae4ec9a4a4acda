use Rattle.std.proofs.Common.{◌≡◌, ℕ, map, take}
use Rattle.route_runs.proofs.listed.handles_alone.Given as goal

abbrev pub invariant-loop-at : goal.invariant-loop-at
invariant-loop-at g l = l.list.items ≡ map (λ (e : g.row.K.Denot × ℕ). e.1) (take l.at l.rows)
