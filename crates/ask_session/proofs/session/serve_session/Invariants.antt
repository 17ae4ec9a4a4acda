use Rattle.std.proofs.Common.{◌≤◌, ◌-◌}
use Rattle.ask_session.specs.Sessions.{Sees}
use Rattle.ask_session.proofs.Serving.{ServesSome}
use Rattle.ask_session.proofs.session.serve_session.Given as goal

abbrev pub invariant-loop-served : goal.invariant-loop-served
invariant-loop-served g l = record {
  sees : Sees l.fn.pass l.pass;
  serves : ServesSome l.fn.pass.station.lanes l.fn.pass.seen l.pass.seen (g.K.Sink.aside l.fn.link) (g.K.Sink.aside l.link) (g.K.Sink.told l.fn.link) (g.K.Sink.told l.link) (g.K.Sink.faults l.fn.link) (g.K.Sink.faults l.link) l.served;
  most : l.served ≤ l.rounds;
}

abbrev pub decreases-loop-served : goal.decreases-loop-served
decreases-loop-served g l = l.rounds - l.served
