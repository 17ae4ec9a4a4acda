use Rattle.station_words.proofs.ThreeNumbers.{same_drill}
use Rattle.station_words.proofs.drill_words.drill_of.Goals as goal

pub returns-else-may_drill-clause-none : goal.returns-else-may_drill-clause-none
returns-else-may_drill-clause-none c = λ drill is.
    let may = c.may_drill.ensures.1 (same_drill c.args.seed.now c.args.lanes.now c.args.messages.now _ drill c.in-Some-read_number.ensures.some c.in-Some-read_number-2.ensures.some is) in
    cc (may, c.if-may_drill.false)
