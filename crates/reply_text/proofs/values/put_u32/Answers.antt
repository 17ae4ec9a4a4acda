use Rattle.std.proofs.Common.{◌≤◌, length, ap, arith, length-append}
use Rattle.std.proofs.lemmas.Fmt.{length-decimal-le}
use Rattle.bmp_specs.specs.NumberText.{number_text}
use Rattle.reply_text.proofs.values.put_u32.Goals as goal

pub put_number-requires : goal.put_number-requires
put_number-requires c =
    let digits : length (number_text c.args.number) ≤ 10 = length-decimal-le 10 c.args.number (omega arith) (omega (arith, c.ranges.number.fits)) (omega (arith, c.ranges.number.fits)) in
    omega (arith, c.requires, digits)

pub returns-clause-short : goal.returns-clause-short
returns-clause-short c =
    let digits : length (number_text c.args.number) ≤ 10 = length-decimal-le 10 c.args.number (omega arith) (omega (arith, c.ranges.number.fits)) (omega (arith, c.ranges.number.fits)) in
    omega (arith, digits, ap length c.put_number.ensures, length-append c.args.text.now (number_text c.args.number))
