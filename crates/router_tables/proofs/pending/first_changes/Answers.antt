use Rattle.std.proofs.Common.{subst}
use Rattle.std.specs.Option.{option_map}
use Rattle.route_runs.specs.Runs.{shared}
use Rattle.router_tables.specs.Pending.{IsGathered}
use Rattle.router_tables.proofs.pending.first_changes.Goals as goal

pub returns : goal.returns
returns c = subst (λ was. IsGathered c.args.view c.args.nlris.now (option_map shared c.args.to) was c.change.new.self) c.new-changes.ensures c.in_ok-change.ensures
