use Rattle.bmp_writer.proofs.PeerUpRead.{header_appended, peer_up_appended, size_appended}
use Rattle.bmp_writer.proofs.peer_up.put_peer_up.Goals as goal

pub returns-in-Ok-clause-ok : goal.returns-in-Ok-clause-ok
returns-in-Ok-clause-ok c = peer_up_appended c.args.key.now c.args.info.now c.args.out.now c.put_message.new.out c.requires c.in-Ok.ensures.ok

pub returns-in-Ok-clause-header : goal.returns-in-Ok-clause-header
returns-in-Ok-clause-header c = header_appended c.args.key.now c.args.info.now c.args.out.now c.put_message.new.out c.in-Ok.ensures.ok

pub returns-in-Ok-clause-size : goal.returns-in-Ok-clause-size
returns-in-Ok-clause-size c = size_appended c.args.key.now c.args.info.now c.args.out.now c.put_message.new.out c.in-Ok.ensures.ok
