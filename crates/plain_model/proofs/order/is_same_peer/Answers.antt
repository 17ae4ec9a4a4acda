use Rattle.bmp_specs.specs.Orders.{key_cmp}
use Rattle.bmp_specs.proofs.OrderLaws.{key_total, key_exact}
use Rattle.plain_model.specs.Values.{key_value}
use Rattle.plain_model.proofs.Ties.{ties}
use Rattle.plain_model.proofs.order.is_same_peer.Goals as goal

pub returns : goal.returns
returns c = ties key_cmp key_total key_exact (key_value c.args.a.now) (key_value c.args.b.now) c.peer_order.result c.is_eq.result c.peer_order.ensures c.is_eq.ensures
