use Rattle.router_tables.proofs.ChangesMade.{rows_same, rows_made}
use Rattle.router_tables.proofs.changed.make_changes.Goals as goal

pub loop-peer-preserved : goal.loop-peer-preserved
loop-peer-preserved c effects h =
    rows_same c.loop-peer.pending.entries c.pop_first.new.self.entries c.loop-peer.tables.entries c.change_peer.new.tables.entries c.in-Some.peer.0 c.in-Some.peer.1
    c.in-Some.ensures.value c.in-Some.ensures.updates.1 c.in-Some.ensures.updates.2 c.in_ok-change_peer.ensures effects (c.loop-peer.invariant effects h)

pub returns : goal.returns
returns c effects h = rows_made c.loop-peer.pending.entries c.loop-peer.tables.entries effects c.in_default.ensures.variant.1 (c.loop-peer.invariant effects h)
