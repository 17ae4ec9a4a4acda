use Rattle.std.proofs.Common.{◌≡◌, [], take}
use Rattle.route_runs.specs.Nlri.{of_family}
use Rattle.route_runs.proofs.listed_nlri.has_family.Given as goal

abbrev pub invariant-loop-nlri : goal.invariant-loop-nlri
invariant-loop-nlri l = of_family l.family (take l.nlri-index l.nlris) ≡ []
