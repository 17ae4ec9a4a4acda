use Rattle.router_tables.proofs.PendingDrops.{rows_after_dropped}
use Rattle.router_tables.proofs.pending.drop_gathered.Goals as goal

pub returns : goal.returns
returns c = λ effects effect names h.
    let p = c.remove.ensures.updates in
    let t = c.remove-3.ensures.updates in
    rows_after_dropped c.args.pending.now.entries c.remove.new.self.entries c.args.tables.now.entries c.remove-3.new.self.entries effects effect c.args.key.now names p.1 p.2 t.1 t.2 h
