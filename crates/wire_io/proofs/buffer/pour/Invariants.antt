use Rattle.std.proofs.Common.{length, ◌-◌, ◌≡◌, ◌≤◌}
use Rattle.wire_io.specs.Buffer.{Pours}
use Rattle.wire_io.proofs.buffer.pour.Given as goal

abbrev pub invariant-loop-at : goal.invariant-loop-at
invariant-loop-at g l = record {
  above : l.start ≤ l.at;
  within : l.at ≤ length l.bytes;
  told : Pours (g.O.Sink.told l.fn.out) (g.O.Sink.told l.out) l.bytes l.start l.at;
  kept : g.O.Sink.aside l.out ≡ g.O.Sink.aside l.fn.out;
  calm : g.O.Sink.faults l.out ≡ g.O.Sink.faults l.fn.out;
}

abbrev pub decreases-loop-at : goal.decreases-loop-at
decreases-loop-at g l = length l.bytes - l.at
