use Rattle.std.proofs.lemmas.Result.{on_ok_weaker}
use Rattle.drill_streams.proofs.Written.{up_put}
use Rattle.drill_streams.proofs.message.put_up.Goals as goal

pub returns : goal.returns
returns c = on_ok_weaker c.put_peer_up-2.result (up_put c.args.peer c.key_of.result c.info_of.result c.key_of.ensures c.info_of.ensures c.args.out.now c.put_peer_up-2.new.out) c.put_peer_up-2.ensures.bytes
