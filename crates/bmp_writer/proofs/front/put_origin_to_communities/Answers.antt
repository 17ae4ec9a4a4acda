use Rattle.std.proofs.lemmas.Result.{on_ok_weaker}
use Rattle.bmp_writer.proofs.Joining.{appends_joined}
use Rattle.bmp_writer.proofs.front.put_origin_to_communities.Goals as goal

pub returns-clause-ok : goal.returns-clause-ok
returns-clause-ok c = on_ok_weaker c.put_second.result (appends_joined _ _ c.args.out.now c.put_first.new.out c.put_second.new.out c.in_ok-put_first.ensures.ok) c.put_second.ensures.ok
