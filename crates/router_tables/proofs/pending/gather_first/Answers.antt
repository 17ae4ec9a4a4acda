use Rattle.std.specs.Option.{option_map}
use Rattle.route_runs.specs.Runs.{shared}
use Rattle.router_tables.proofs.PendingSteps.{gathered_first}
use Rattle.router_tables.proofs.pending.gather_first.Goals as goal

pub returns : goal.returns
returns c none =
    let put = c.in_ok-insert.ensures.updates in
    gathered_first c.args.key.now c.args.view c.args.nlris.now (option_map shared c.args.to) c.args.pending.now.entries c.insert.new.self.entries c.in_ok-changes.changes none c.in_ok-changes.ensures put.1 put.2
