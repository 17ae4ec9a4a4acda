use Rattle.std.proofs.Common.{◌≡◌, length, Some}
use Rattle.std.specs.List.{filter}
use Rattle.route_runs.specs.Cursor.{pairs_in}
use Rattle.route_runs.specs.Origins.{attrs_origin, of_origin}
use Rattle.route_runs.specs.Override.{value_at}
use Rattle.route_runs.specs.Places.{IsPassed, is_after}
use Rattle.route_runs.proofs.origin.first_after.Given as goal

abbrev pub invariant-loop-pair : goal.invariant-loop-pair
invariant-loop-pair g l = record {
  passed : IsPassed g.K.Ord.cmp (λ q. Some (of_origin attrs_origin l.asn (value_at g.K.Ord.cmp q l.fn.rows.pairs))) (Some l.initial.at) (Some l.at);
  rows : l.rows.pairs ≡ l.fn.rows.pairs;
  index : pairs_in l.index ≡ pairs_in l.fn.index;
}

abbrev pub decreases-loop-pair : goal.decreases-loop-pair
decreases-loop-pair g l = length (filter (λ e. is_after g.K.Ord.cmp (Some l.at) e.0) l.fn.rows.pairs)
