use Rattle.std.proofs.Common.{◌≤◌, length, arith}
use Rattle.std.proofs.lemmas.Fmt.{length-decimal-le}
use Rattle.bmp_specs.specs.NumberText.{number_text}
use Rattle.reply_text.proofs.values.put_u8.Goals as goal

pub put_number-requires : goal.put_number-requires
put_number-requires c =
    let digits : length (number_text c.args.number) ≤ 3 = length-decimal-le 3 c.args.number (omega arith) (omega (arith, c.ranges.number.fits)) (omega (arith, c.ranges.number.fits)) in
    omega (arith, c.requires, digits)
