use Rattle.std.proofs.Common.{refl}
use Rattle.bmp_specs.specs.Number.{IsNumber}
use Rattle.bmp_writer.proofs.Still.{parts_more}
use Rattle.bmp_writer.proofs.attributes.put_numbers.Goals as goal

pub loop-number-preserved : goal.loop-number-preserved
loop-number-preserved c = parts_more (IsNumber 4) c.args.numbers.now c.loop-number.number-index 0 _ c.args.out.now c.loop-number.out c.four_octets.result c.extend.new.self c.loop-number-test.true refl c.loop-number.invariant c.in_ok-extend.ensures.ok c.four_octets.ensures
