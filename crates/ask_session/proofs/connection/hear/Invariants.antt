use Rattle.std.proofs.Common.{◌≡◌, ◌++◌, take}
use Rattle.ask_session.specs.Hearing.{Goes}
use Rattle.ask_session.specs.Sessions.{Sees}
use Rattle.ask_session.proofs.connection.hear.Given as goal

abbrev pub invariant-loop-byte : goal.invariant-loop-byte
invariant-loop-byte g l = record {
  sees : Sees l.fn.pass l.pass;
  goes : Goes l.fn.pass.station.lanes l.fn.pass.seen l.pass.seen (l.fn.line ++ take l.byte-index l.piece) l.line (g.K.Sink.told l.fn.link) (g.K.Sink.told l.link) (g.K.Sink.faults l.fn.link) (g.K.Sink.faults l.link);
  kept : g.K.Sink.aside l.link ≡ g.K.Sink.aside l.fn.link;
}
