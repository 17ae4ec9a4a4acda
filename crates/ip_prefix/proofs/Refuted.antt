-- Wrong results that the clauses of this crate don't let through, each at values.
use Rattle.std.proofs.Common.{◌≡◌, ℕ, List, [], ◌∷◌, refl, ap, arith}
use Rattle.std.specs.Prelude.{codes, slice_index}
use Rattle.bmp_specs.specs.declared.wire.Family.TheVariants.{V4, V6}
use Rattle.bmp_specs.specs.AddressText.{IsAddressText}
use Rattle.bmp_specs.specs.Prefix.{StandsAtFront}
use Rattle.bmp_specs.specs.Values.{PrefixValue}
use Rattle.ip_prefix.proofs.AddressReading.{no_dot}
use Rattle.ip_prefix.proofs.V6Text.{v6_lacks}

-- An IPv4 prefix of more than 32 bits is accepted.
ipv4_has_no_prefix_of_33_bits : (p : PrefixValue) → StandsAtFront V4 (33 ∷ 10 ∷ 0 ∷ 0 ∷ 0 ∷ 0 ∷ []) p 6 → ⊥
ipv4_has_no_prefix_of_33_bits p stands = omega (arith, stands.is.within)

-- Bits past the length of an IPv4 prefix are kept.
bits_past_the_length_are_not_kept : (p : PrefixValue) → StandsAtFront V4 (9 ∷ 10 ∷ 255 ∷ []) p 3 → slice_index p.address.octets 1 ≡ 255 → ⊥
bits_past_the_length_are_not_kept p stands kept =
    let first : slice_index p.address.octets 1 ≡ 128 = ap (λ (q : PrefixValue). slice_index q.address.octets 1) stands.is.value in
    omega (arith, first, kept)

-- A dotted text of 16 octets or more is read as IPv6.
abbrev dotted_quad : List ℕ
dotted_quad = codes "::ffff:192.0.2.1"

a_dotted_quad_is_no_ipv6 : (octets : List ℕ) → IsAddressText dotted_quad (record { family = V6; octets = octets }) → ⊥
a_dotted_quad_is_no_ipv6 octets (groups, is, _) = no_dot dotted_quad groups (10, omega arith, refl) (v6_lacks 46 (omega arith) (λ e. omega (arith, e)) dotted_quad groups is)
