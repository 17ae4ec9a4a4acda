use Rattle.std.proofs.Common.{take}
use Rattle.station_core.specs.Schedule.{start_of}
use Rattle.station_core.proofs.Running.{Running}
use Rattle.station_core.proofs.schedule.run.Given as goal

abbrev pub invariant-loop-event : goal.invariant-loop-event
invariant-loop-event g l =
    Running g.O.Sink.faults g.O.Sink.told g.O.Sink.aside g.B.BodyReading.meaning g.B.BodyReading.state (take l.event-index l.events) (start_of l.fn.lanes l.fn.askers) l.initial.out l.out
    l.machine.lanes.items l.machine.shown.items l.machine.seen.items l.machine.finished
