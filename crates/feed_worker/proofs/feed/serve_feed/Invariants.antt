use Rattle.std.proofs.Common.{◌≤◌, ◌-◌}
use Rattle.rib_model.specs.Entries.{entry_values}
use Rattle.feed_worker.specs.Closings.{AreTold}
use Rattle.feed_worker.specs.FeedPort.{IsAtRest}
use Rattle.feed_worker.proofs.Serving.{ServesSoMany}
use Rattle.feed_worker.proofs.feed.serve_feed.Given as goal

abbrev pub invariant-loop-served : goal.invariant-loop-served
invariant-loop-served g l = record {
  serves : ServesSoMany g.B.BodyReading.meaning (g.P.FeedPort.aside l.fn.port) (g.P.FeedPort.aside l.port) l.fn.pass l.pass l.served;
  most : l.served ≤ l.rounds;
  at_rest : IsAtRest (entry_values l.pass.entries);
  told : AreTold (g.P.FeedPort.causes l.fn.port) (entry_values l.fn.pass.entries) → AreTold (g.P.FeedPort.causes l.port) (entry_values l.pass.entries);
}

abbrev pub decreases-loop-served : goal.decreases-loop-served
decreases-loop-served g l = l.rounds - l.served
