use Rattle.std.proofs.Common.{ℕ, ◌<◌, get_or}
use Rattle.bmp_specs.specs.Values.{NlriValue}
use Rattle.route_runs.specs.Nlri.{IsNlri}
use Rattle.route_runs.proofs.see.see_all.Given as goal

abbrev pub invariant-loop-nlri : goal.invariant-loop-nlri
invariant-loop-nlri l = (k : ℕ) (d : NlriValue) → k < l.nlri-index → IsNlri (get_or l.list k d)
