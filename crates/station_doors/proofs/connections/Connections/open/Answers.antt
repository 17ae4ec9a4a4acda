use Rattle.std.proofs.Common.{arith, ap, ◌∙◌, List, ℕ, Some}
use Rattle.station_doors.specs.declared.connections.Last.TheVariants.{Gave}
use Rattle.station_doors.specs.declared.connections.Session.{Session}
use Rattle.station_doors.proofs.Sessions.{opens_next, notes_next}
use Rattle.station_doors.proofs.connections.Connections.open.Goals as goal

pub returns-clause-opens : goal.returns-clause-opens
returns-clause-opens c = rw (← c.self.view_is) (opens_next c.self.inside.sessions.items c.self.inside.opened c.args.writes c.begin.new.self c.index_mut.result.now c.self.inside.taken c.self.inside.faults c.self.inside.closed c.self.inside.refused c.self.inside.is_open
    (omega arith) (omega arith) (c.begin.ensures ∙ ap (λ (s : Session). record s { count = 0; last = Gave; writes = c.args.writes }) c.index_mut.ensures.value))

pub returns-clause-writes : goal.returns-clause-writes
returns-clause-writes c = rw (← c.self.view_is) (ap (λ (l : List ℕ). Some l) (notes_next c.self.inside.sessions.items c.self.inside.opened c.args.writes c.begin.new.self c.index_mut.result.now
    (omega arith) (c.begin.ensures ∙ ap (λ (s : Session). record s { count = 0; last = Gave; writes = c.args.writes }) c.index_mut.ensures.value)))
