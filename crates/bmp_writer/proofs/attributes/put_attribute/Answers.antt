use Rattle.std.proofs.Common.{refl}
use Rattle.std.proofs.lemmas.Result.{on_ok_weaker}
use Rattle.bmp_writer.proofs.AttributesRead.{attribute_put}
use Rattle.bmp_writer.proofs.attributes.put_attribute.Goals as goal

pub returns-clause-ok : goal.returns-clause-ok
returns-clause-ok c = on_ok_weaker c.extend.result (attribute_put c.args.flags c.args.code _ c.args.value.now c.args.out.now c.put_head.new.out c.extend.new.self c.requires refl c.in_ok-put_head.ensures.ok) c.extend.ensures.ok
