-- Wrong results that the clauses of this crate don't let through, each at values.
use Rattle.std.proofs.Common.{◌≡◌, ℕ, List, [], ◌∷◌, inl, inr, replicate, arith}
use Rattle.bmp_specs.specs.declared.wire.Family.TheVariants.{V6}
use Rattle.bmp_specs.specs.PeerHeader.{HeaderValue, place_of}
use Rattle.bmp_frames.specs.Cutter.{IsAtFront}
use Rattle.bmp_frames.specs.declared.cutter.Next.TheVariants.{More}

-- A message one octet longer than 1,048,576 is accepted: its header waits for the rest.
a_header_of_1048577_octets_does_not_wait : IsAtFront (3 ∷ 0 ∷ 16 ∷ 0 ∷ 1 ∷ 0 ∷ []) More → ⊥
a_header_of_1048577_octets_does_not_wait (inl short) = omega (arith, short)
a_header_of_1048577_octets_does_not_wait (inr (header, range, more)) = omega (arith, range.1)

-- A message that is there whole waits for one more octet.
a_whole_message_does_not_wait : IsAtFront (3 ∷ 0 ∷ 0 ∷ 0 ∷ 6 ∷ 4 ∷ []) More → ⊥
a_whole_message_does_not_wait (inl short) = omega (arith, short)
a_whole_message_does_not_wait (inr (header, range, more)) = omega (arith, more)

-- The V flag of a Loc-RIB peer, which has another meaning there, makes its address one of IPv6.
abbrev loc_rib_header : HeaderValue
loc_rib_header = record { kind = 3; flags = 0x80; distinguisher = 0; address = replicate 16 0; asn = 64500; identifier = 10 ∷ 0 ∷ 0 ∷ 1 ∷ []; seconds = 0; micros = 0 }

a_loc_rib_has_no_ipv6_address : (raw : List ℕ) → (place_of loc_rib_header raw).family ≡ V6 → ⊥
a_loc_rib_has_no_ipv6_address raw six = grind (arith, six)
