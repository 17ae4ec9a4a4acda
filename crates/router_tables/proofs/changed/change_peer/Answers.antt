use Rattle.std.proofs.Common.{Option, ap, ◌∙◌}
use Rattle.std.specs.Option.{unwrap_or}
use Rattle.router_tables.specs.Views.{ViewsValue, no_tables}
use Rattle.router_tables.proofs.ChangesMade.{peer_put, peer_gone}
use Rattle.router_tables.proofs.changed.change_peer.Goals as goal

pub returns-in_ok-insert : goal.returns-in_ok-insert
returns-in_ok-insert c =
    let out = c.remove.ensures.updates in
    let put = c.in_ok-insert.ensures.updates in
    peer_put c.args.key c.args.changes c.args.tables.now.entries c.remove.new.self.entries c.so_far-old.result c.in_ok-new.new
    (c.so_far-old.ensures ∙ ap (λ (o : Option ViewsValue). unwrap_or o no_tables) c.remove.ensures.value) c.in_ok-new.ensures out.2 c.insert.new.self.entries put.1 put.2

pub returns-else-not-is_none : goal.returns-else-not-is_none
returns-else-not-is_none c =
    let out = c.remove.ensures.updates in
    peer_gone c.args.key c.args.changes c.args.tables.now.entries c.remove.new.self.entries c.so_far-old.result c.in_ok-new.new
    (c.so_far-old.ensures ∙ ap (λ (o : Option ViewsValue). unwrap_or o no_tables) c.remove.ensures.value) c.in_ok-new.ensures out.2 out.1 (c.is_none.ensures c.if-not-is_none.false)
