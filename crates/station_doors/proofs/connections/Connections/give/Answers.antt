use Rattle.std.proofs.Common.{◌≡◌, rules, arith, subst, get_or, ◌-◌, ◌<◌}
use Rattle.station_doors.specs.declared.connections.Session.{Session}
use Rattle.station_doors.specs.Connections.{IsGiven}
use Rattle.station_doors.proofs.Sessions.{reads_some, left_at}
use Rattle.station_doors.proofs.connections.Connections.give.Goals as goal

pub returns-clause-reads : goal.returns-clause-reads
returns-clause-reads c =
    let some : 0 < c.self.inside.opened = c.self.invariant.1 (rw (← c.self.view_is) at c.requires.is_open) in
    rw (← c.self.view_is) (reads_some c.self.inside.sessions.items (c.self.inside.opened - 1) c.self.inside.opened c.self.inside.taken _ c.self.inside.faults c.give-count.result c.self.inside.closed c.give-count.new.self c.index_mut-session.result.now c.give-count.new.buf c.self.inside.refused c.self.inside.is_open
    (omega arith) (omega arith) (subst (λ (s : Session). IsGiven s c.give-count.new.self c.give-count.result c.give-count.new.buf) c.index_mut-session.ensures.value c.give-count.ensures.given) (search rules))

pub returns-clause-count : goal.returns-clause-count
returns-clause-count c =
    let some : 0 < c.self.inside.opened = c.self.invariant.1 (rw (← c.self.view_is) at c.requires.is_open) in
    let session = c.index_mut-session.result.now in
    let same : session ≡ get_or c.self.inside.sessions.items (c.self.inside.opened - 1) session = c.index_mut-session.ensures.value in
    let left = left_at c.self.inside.sessions.items (c.self.inside.opened - 1) c.self.inside.opened session (omega arith) (omega arith) in
    let whole = rw (← same) at left in
    rw (← c.self.view_is) (omega (arith, whole, c.give-count.ensures.count))
