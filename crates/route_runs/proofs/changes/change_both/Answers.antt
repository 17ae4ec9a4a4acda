use Rattle.std.specs.Option.{option_map}
use Rattle.route_runs.specs.Runs.{shared}
use Rattle.route_runs.proofs.ChangesOfHalves.{changed_to_cat}
use Rattle.route_runs.proofs.changes.change_both.Goals as goal

pub returns-clause-changed : goal.returns-clause-changed
returns-clause-changed c =
    changed_to_cat c.args.nlri.now (option_map shared c.args.to) c.args.ipv4.now c.args.ipv6.now c.change_half.new.half c.change_half-2.new.half c.requires.halves
    (record { low = c.in_ok-change_half.ensures.keys; high = c.in_ok-change_half-2.ensures.keys }) c.in_ok-change_half.ensures.changed c.in_ok-change_half-2.ensures.changed
