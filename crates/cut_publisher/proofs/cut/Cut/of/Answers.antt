use Rattle.cut_publisher.proofs.Given.{stands_given}
use Rattle.cut_publisher.proofs.cut.Cut.of.Goals as goal

pub returns-clause-stands : goal.returns-clause-stands
returns-clause-stands g c = stands_given g.S.Subject.stands c.args.lanes.now c.in_ok-lanes.lanes.items c.in_ok-lanes.ensures c.requires.lanes.1 c.requires.counts
