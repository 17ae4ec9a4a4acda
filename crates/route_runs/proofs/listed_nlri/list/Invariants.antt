use Rattle.std.proofs.Common.{◌≡◌, ◌++◌, map, take}
use Rattle.bmp_specs.specs.Values.{NlriValue}
use Rattle.route_runs.specs.Nlri.{of_family}
use Rattle.route_runs.proofs.listed_nlri.list.Given as goal

abbrev pub invariant-loop-nlri : goal.invariant-loop-nlri
invariant-loop-nlri g l = l.rows.items ≡ l.fn.rows.items ++ map (λ (n : NlriValue). (n, l.handle)) (of_family g.N.KeyAddress.family (take l.nlri-index l.nlris))
