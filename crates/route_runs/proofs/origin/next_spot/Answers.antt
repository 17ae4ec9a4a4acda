use Rattle.std.proofs.Common.{arith}
use Rattle.route_runs.proofs.Origins.{spot_none, spot_found, spot_other}
use Rattle.route_runs.proofs.origin.next_spot.Goals as goal

pub returns-in-None-clause-next : goal.returns-in-None-clause-next
returns-in-None-clause-next g c = spot_none g.S.Ord.cmp c.args.index.now.pairs c.args.asn c.args.spot c.in-None.ensures.first

pub returns-then-pair-asn-clause-next : goal.returns-then-pair-asn-clause-next
returns-then-pair-asn-clause-next g c = spot_found g.S.Ord.cmp c.args.index.now.pairs c.args.asn c.args.spot _ c.in-Some.ensures.first c.if-pair-asn.true

pub returns-else-pair-asn-clause-next : goal.returns-else-pair-asn-clause-next
returns-else-pair-asn-clause-next g c = spot_other g.S.Ord.cmp c.args.index.now.pairs c.args.asn c.args.spot _ c.in-Some.ensures.first (λ s. absurd (omega (arith, s, c.if-pair-asn.false)))
