use Rattle.std.proofs.Common.{rules, ◌≡◌, replicate}
use Rattle.station_core.proofs.Starting.{stands_start}
use Rattle.station_core.proofs.machine.Machine.new.Goals as goal

pub returns : goal.returns
returns g c =
    let shown = c.in_ok-new_shown.ensures in
    let seen : c.in_ok-vec.field-0.items ≡ replicate c.args.askers 0 = search rules in
    stands_start g.B.BodyReading.meaning g.B.BodyReading.state c.in_ok-new_lanes.field-0.items c.in_ok-new_shown.field-0.items c.in_ok-vec.field-0.items c.args.lanes c.args.askers shown.0 c.requires c.in_ok-new_lanes.ensures shown.1 shown.2 seen
