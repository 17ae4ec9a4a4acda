use Rattle.std.proofs.Common.{ap, ◌∙◌}
use Rattle.cut_publisher.specs.Cuts.{total}
use Rattle.station_core.proofs.Changing.{total_is}
use Rattle.station_core.proofs.Starting.{room_counts}
use Rattle.station_core.proofs.machine.Machine.revision.Goals as goal

pub revision_of-requires-clause-counts : goal.revision_of-requires-clause-counts
revision_of-requires-clause-counts g c =
    let m = c.args.self.now in
    rw c.deref.ensures.value (room_counts g.B.BodyReading.meaning g.B.BodyReading.state m.lanes.items m.shown.items m.seen.items m.finished c.requires)

pub returns : goal.returns
returns g c v s few =
    let m = c.args.self.now in
    c.revision_of.ensures ∙ ap total c.deref.ensures.value ∙ total_is g.B.BodyReading.meaning g.B.BodyReading.state m.lanes.items m.shown.items m.seen.items m.finished v s few
