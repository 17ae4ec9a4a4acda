use Rattle.cut_publisher.proofs.Revisions.{few_lanes_fit}
use Rattle.station_core.proofs.machine.ask_on.Goals as goal

pub of-requires-clause-rev : goal.of-requires-clause-rev
of-requires-clause-rev g c = few_lanes_fit c.args.shown.now c.requires.lanes c.requires.counts
