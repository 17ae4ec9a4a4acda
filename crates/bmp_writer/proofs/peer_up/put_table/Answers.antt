use Rattle.std.proofs.lemmas.Result.{on_ok_weaker}
use Rattle.bmp_writer.proofs.PeerUpRead.{table_put}
use Rattle.bmp_writer.proofs.peer_up.put_table.Goals as goal

pub returns-clause-ok : goal.returns-clause-ok
returns-clause-ok c = on_ok_weaker c.extend-3.result
    (table_put c.args.table.now c.in-Some.name c.as_slice-name.result.now c.to_be_bytes.result c.to_be_bytes-2.result c.args.out.now c.extend.new.self c.extend-2.new.self c.extend-3.new.self c.in-Some.is c.as_slice-name.ensures c.requires c.to_be_bytes.ensures c.to_be_bytes-2.ensures c.in_ok-extend.ensures.ok c.in_ok-extend-2.ensures.ok)
    c.extend-3.ensures.ok
