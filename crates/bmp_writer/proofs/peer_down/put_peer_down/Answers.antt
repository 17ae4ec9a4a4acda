use Rattle.std.proofs.lemmas.Result.{on_ok_weaker}
use Rattle.bmp_writer.proofs.Peers.{peer_down_appended, peer_down_size, plain_appended}
use Rattle.bmp_writer.proofs.peer_down.put_peer_down.Goals as goal

pub returns-clause-ok : goal.returns-clause-ok
returns-clause-ok c = on_ok_weaker c.put_peer_message.result (peer_down_appended c.args.key.now c.first_view.result c.args.reason _ _) c.put_peer_message.ensures.ok

pub returns-clause-plain : goal.returns-clause-plain
returns-clause-plain c = on_ok_weaker c.put_peer_message.result (plain_appended 2 c.args.key.now c.first_view.result _ _ _) c.put_peer_message.ensures.ok

pub returns-clause-no_data : goal.returns-clause-no_data
returns-clause-no_data c = on_ok_weaker c.put_peer_message.result (peer_down_size c.args.key.now c.first_view.result c.args.reason _ _) c.put_peer_message.ensures.ok
