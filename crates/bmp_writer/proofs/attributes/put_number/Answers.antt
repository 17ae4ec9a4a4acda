use Rattle.std.proofs.lemmas.Result.{on_ok_weaker}
use Rattle.bmp_specs.specs.Number.{IsNumber}
use Rattle.bmp_writer.proofs.AttributesRead.{some_put}
use Rattle.bmp_writer.proofs.attributes.put_number.Goals as goal

pub returns-in-Some-clause-ok : goal.returns-in-Some-clause-ok
returns-in-Some-clause-ok c = on_ok_weaker c.put_attribute.result (some_put _ _ (IsNumber 4) c.args.number c.in-Some.number c.four_octets.result c.args.out.now c.put_attribute.new.out c.in-Some.is c.four_octets.ensures) c.put_attribute.ensures.ok
