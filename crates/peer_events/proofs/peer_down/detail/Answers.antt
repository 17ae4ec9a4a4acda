use Rattle.std.proofs.Common.{arith}
use Rattle.peer_events.proofs.peer_down.detail.Goals as goal

pub returns-in-None : goal.returns-in-None
returns-in-None c = record {
  no_notification = λ code sub n. c.in-None.ensures.none code sub n.is;
  no_event = λ event e. grind (arith, e.asks, c.in-1.is);
}
