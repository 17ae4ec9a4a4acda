use Rattle.std.proofs.lemmas.Result.{on_ok_weaker}
use Rattle.bmp_specs.specs.declared.wire.Family.TheVariants.{V4, V6}
use Rattle.bmp_writer.proofs.Peers.{mark_appended, mark_fills, mark_put, plain_appended}
use Rattle.bmp_writer.proofs.mark.put_mark.Goals as goal

pub returns-in-V4-clause-ok : goal.returns-in-V4-clause-ok
returns-in-V4-clause-ok c = on_ok_weaker c.put_peer_message.result (mark_appended c.args.key.now c.args.view V4 c.args.family c.in-V4.is _ _) c.put_peer_message.ensures.ok

pub returns-in-V6-clause-ok : goal.returns-in-V6-clause-ok
returns-in-V6-clause-ok c = on_ok_weaker c.put_peer_message-in-V6.result (mark_appended c.args.key.now c.args.view V6 c.args.family c.in-V6.is _ _) c.put_peer_message-in-V6.ensures.ok

pub returns-in-V4-clause-bytes : goal.returns-in-V4-clause-bytes
returns-in-V4-clause-bytes c = on_ok_weaker c.put_peer_message.result (mark_put c.args.key.now c.args.view V4 c.args.family c.in-V4.is _ _) c.put_peer_message.ensures.ok

pub returns-in-V6-clause-bytes : goal.returns-in-V6-clause-bytes
returns-in-V6-clause-bytes c = on_ok_weaker c.put_peer_message-in-V6.result (mark_put c.args.key.now c.args.view V6 c.args.family c.in-V6.is _ _) c.put_peer_message-in-V6.ensures.ok

pub returns-in-V4-clause-plain : goal.returns-in-V4-clause-plain
returns-in-V4-clause-plain c = on_ok_weaker c.put_peer_message.result (plain_appended 0 c.args.key.now c.args.view _ _ _) c.put_peer_message.ensures.ok

pub returns-in-V6-clause-plain : goal.returns-in-V6-clause-plain
returns-in-V6-clause-plain c = on_ok_weaker c.put_peer_message-in-V6.result (plain_appended 0 c.args.key.now c.args.view _ _ _) c.put_peer_message-in-V6.ensures.ok

pub returns-in-V4-clause-size : goal.returns-in-V4-clause-size
returns-in-V4-clause-size c = on_ok_weaker c.put_peer_message.result (mark_fills c.args.key.now c.args.view V4 c.args.family c.in-V4.is _ _) c.put_peer_message.ensures.ok

pub returns-in-V6-clause-size : goal.returns-in-V6-clause-size
returns-in-V6-clause-size c = on_ok_weaker c.put_peer_message-in-V6.result (mark_fills c.args.key.now c.args.view V6 c.args.family c.in-V6.is _ _) c.put_peer_message-in-V6.ensures.ok
