use Rattle.std.proofs.Common.{◌∙◌, ap, sym}
use Rattle.route_runs.specs.Walk.{pairs_from}
use Rattle.route_runs.proofs.Left.{all_pass}
use Rattle.route_runs.proofs.table.RouteTable.walk.Goals as goal

pub returns-in-First : goal.returns-in-First
returns-in-First c = c.walk_after.ensures ∙ all_pass c.args.self.now ∙ sym (ap (λ p. pairs_from p c.args.self.now) c.in-First.is)
