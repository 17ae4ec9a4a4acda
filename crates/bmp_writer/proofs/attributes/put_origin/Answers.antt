use Rattle.std.proofs.Common.{◌∷◌, []}
use Rattle.std.proofs.lemmas.Result.{on_ok_weaker}
use Rattle.bmp_specs.specs.Number.{IsNumber}
use Rattle.bmp_writer.proofs.AttributesRead.{some_put}
use Rattle.bmp_writer.proofs.Headers.{one_byte}
use Rattle.bmp_writer.proofs.attributes.put_origin.Goals as goal

pub returns-in-Some-clause-ok : goal.returns-in-Some-clause-ok
returns-in-Some-clause-ok c = on_ok_weaker c.put_attribute.result (some_put _ _ (IsNumber 1) c.args.origin c.in-Some.origin (c.in-Some.origin ∷ []) c.args.out.now c.put_attribute.new.out c.in-Some.is (one_byte c.in-Some.origin)) c.put_attribute.ensures.ok
