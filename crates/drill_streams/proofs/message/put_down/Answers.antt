use Rattle.std.proofs.lemmas.Result.{on_ok_weaker}
use Rattle.drill_streams.proofs.Written.{down_put}
use Rattle.drill_streams.proofs.message.put_down.Goals as goal

pub returns : goal.returns
returns c = on_ok_weaker c.put_peer_down.result (down_put c.args.peer c.key_of.result c.key_of.ensures c.args.out.now c.put_peer_down.new.out) c.put_peer_down.ensures.bytes
