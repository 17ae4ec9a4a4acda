use Rattle.std.proofs.Common.{arith, ap, ◌-◌, ◌<◌}
use Rattle.station_doors.specs.declared.connections.Last.TheVariants.{Fault}
use Rattle.station_doors.specs.declared.connections.Session.{Session}
use Rattle.station_doors.proofs.Sessions.{reads_fault}
use Rattle.station_doors.proofs.connections.Connections.fail.Goals as goal

pub returns : goal.returns
returns c f buf =
    let some : 0 < c.self.inside.opened = c.self.invariant.1 (rw (← c.self.view_is) at c.requires) in
    rw (← c.self.view_is) (reads_fault c.self.inside.sessions.items (c.self.inside.opened - 1) c.self.inside.opened c.self.inside.taken c.self.inside.faults c.saturating_add-self-inside.result c.self.inside.closed _ c.index_mut.result.now buf c.self.inside.refused c.self.inside.is_open f
    (omega arith) (omega arith) (ap (λ (s : Session). record s { last = Fault }) c.index_mut.ensures.value) c.saturating_add-self-inside.ensures (omega arith))
