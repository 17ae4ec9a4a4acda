use Rattle.std.proofs.Common.{[], refl}
use Rattle.std.proofs.lemmas.Result.{on_ok_weaker}
use Rattle.bmp_specs.specs.Attributes.{IsAtomic}
use Rattle.bmp_writer.proofs.AttributesRead.{part_put}
use Rattle.bmp_writer.proofs.attributes.put_atomic.Goals as goal

pub returns-then-atomic-clause-ok : goal.returns-then-atomic-clause-ok
returns-then-atomic-clause-ok c = on_ok_weaker c.put_attribute.result (part_put _ _ (λ value. IsAtomic value c.args.atomic) [] c.args.out.now c.put_attribute.new.out (refl, c.if-atomic.true)) c.put_attribute.ensures.ok
