use Rattle.std.proofs.Common.{◌≡◌, length, rules, sym, subst}
use Rattle.bmp_specs.proofs.FirstBits.{AreBytes}
use Rattle.bmp_specs.specs.Address.{IsAddressPrefix}
use Rattle.ip_prefix.proofs.WireFront.{four_is, four_valid}
use Rattle.ip_prefix.proofs.prefixes.Prefix.v4.Goals as goal

pub invariant_of-result : goal.invariant_of-result
invariant_of-result c =
    let four : length c.args.bytes ≡ 4 = search rules in
    let bytes : AreBytes c.args.bytes = search rules in
    let is = four_is c.args.bits c.args.bytes c.first_of_four.result c.v4.result c.first_of_four.ensures c.v4.ensures.family c.v4.ensures.octets in
    subst IsAddressPrefix (sym is) (four_valid c.args.bits c.args.bytes four bytes c.requires)

pub returns : goal.returns
returns c = four_is c.args.bits c.args.bytes c.first_of_four.result c.v4.result c.first_of_four.ensures c.v4.ensures.family c.v4.ensures.octets
