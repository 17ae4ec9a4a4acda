use Rattle.std.proofs.Common.{◌≡◌, ◌∙◌, ap, length, rules}
use Rattle.std.specs.Int.{w32, to_be_bytes}
use Rattle.bmp_specs.proofs.FirstBits.{AreBytes}
use Rattle.ip_prefix.proofs.FirstOfFour.{first_of_four}
use Rattle.ip_prefix.proofs.prefixes.first_of_four.Goals as goal

pub returns : goal.returns
returns c =
    let four : length c.args.bytes ≡ 4 = search rules in
    let bytes : AreBytes c.args.bytes = search rules in
    c.to_be_bytes.ensures ∙ ap (to_be_bytes w32) (search rules) ∙ first_of_four c.args.bits c.from_be_bytes-word.result c.args.bytes four bytes c.requires c.from_be_bytes-word.ensures
