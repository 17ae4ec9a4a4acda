use Rattle.std.proofs.Common.{◌-◌}
use Rattle.ask_session.specs.Sessions.{Sees}
use Rattle.ask_session.specs.Taking.{Lives}
use Rattle.ask_session.proofs.connection.converse.Given as goal

abbrev pub invariant-loop-taken : goal.invariant-loop-taken
invariant-loop-taken g l = record {
  sees : Sees l.fn.pass l.pass;
  lives : Lives l.fn.pass.station.lanes l.fn.pass.seen l.pass.seen (g.K.Sink.aside l.fn.link) (g.K.Sink.aside l.link) (g.K.Sink.told l.fn.link) (g.K.Sink.told l.link) (g.K.Sink.faults l.fn.link) (g.K.Sink.faults l.link) l.line l.taken;
}

abbrev pub decreases-loop-taken : goal.decreases-loop-taken
decreases-loop-taken g l = 70368744177664 - l.taken
