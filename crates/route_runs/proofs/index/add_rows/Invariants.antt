use Rattle.std.proofs.Common.{ℕ, map}
use Rattle.std.specs.List.{Contains}
use Rattle.route_runs.specs.Origins.{told_origin, AreNamed}
use Rattle.route_runs.proofs.index.add_rows.Given as goal

abbrev pub invariant-loop-at : goal.invariant-loop-at
invariant-loop-at g l = record {
  kept : (p : ℕ × g.row.K-Spot.Denot) → Contains l.fn.pairs.items p → Contains l.pairs.items p;
  added : AreNamed g.K.TableKey.spot_of (told_origin (map (λ v. v.items) l.origins)) l.keys l.handles l.at l.pairs.items;
}
