use Rattle.std.proofs.Common.{◌≡◌, ◌≤◌, arith, ap, rules, sym, ◌∙◌}
use Rattle.bmp_specs.specs.Prefix.{width_of}
use Rattle.bmp_specs.specs.declared.wire.Family.TheVariants.{V4}
use Rattle.ip_prefix.proofs.Kept.{FitsFamily-first_bits, IsAddressPrefix-prefix_at}
use Rattle.ip_prefix.proofs.WireFront.{four_at}
use Rattle.ip_prefix.proofs.prefixes.Prefix.new.Goals as goal

pub with_octets-requires : goal.with_octets-requires
with_octets-requires c =
    rw (c.family-family.ensures, c.clear.ensures, c.octets-octets.ensures.same) (FitsFamily-first_bits c.args.addr.family c.args.bits c.args.addr.octets c.octets-octets.ensures.valid.len c.octets-octets.ensures.valid.used)

pub invariant_of-result : goal.invariant_of-result
invariant_of-result c =
    let within : c.args.bits ≤ width_of c.args.addr.family = omega (arith, c.if-width-bits.false, c.width.ensures, ap width_of c.family-family.ensures) in
    rw (c.with_octets.ensures, c.family-family.ensures, c.clear.ensures, c.octets-octets.ensures.same) (IsAddressPrefix-prefix_at c.args.addr c.args.bits c.octets-octets.ensures.valid within)

-- an IPv4 address, by its four bytes
pub returns-then-eq-clause-value : goal.returns-then-eq-clause-value
returns-then-eq-clause-value c =
    let v4 : c.family-family.result ≡ V4 = search rules in
    four_at c.args.addr c.args.bits c.octets-octets.result c.v4.result (sym c.family-family.ensures ∙ v4) c.octets-octets.ensures.valid c.octets-octets.ensures.same c.v4.ensures
