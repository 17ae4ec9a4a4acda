-- Wrong results that the clauses of this crate don't let through, each at values.
use Rattle.std.proofs.Common.{◌≡◌, ℕ, true, false, [], ◌∷◌, None, Some, arith}
use Rattle.bmp_specs.specs.declared.wire.Family.TheVariants.{V4}
use Rattle.bmp_specs.specs.declared.wire.Side.TheVariants.{Inward, Outward}
use Rattle.bmp_specs.specs.Open.{Announces, four_octet_as}
use Rattle.bmp_specs.specs.PathIds.{uses_path_ids}
use Rattle.bmp_specs.specs.Values.{CodedValue, OpenValue}

-- an OPEN message with this "Send/Receive" for IPv4 unicast
abbrev speaker : ℕ → OpenValue
speaker value = record { version = 4; my_as = 64500; hold = 180; identifier = 10 ∷ 0 ∷ 0 ∷ 1 ∷ []; four = None; families = []; paths = record { afi = 1; safi = 1; value = value } ∷ []; extended = false }

-- For routes that the router sends, the side that sends and the side that receives path identifiers are confused.
who_receives_alone_sends_no_path_ids : uses_path_ids (speaker 1) (speaker 2) V4 Outward ≡ true → ⊥
who_receives_alone_sends_no_path_ids uses = grind (arith, uses)

who_sends_alone_receives_no_path_ids : uses_path_ids (speaker 2) (speaker 1) V4 Inward ≡ true → ⊥
who_sends_alone_receives_no_path_ids uses = grind (arith, uses)

-- a capability for four-octet AS numbers
abbrev four_octets : ℕ → CodedValue
four_octets asn = record { code = four_octet_as; value = 0 ∷ 0 ∷ 0 ∷ asn ∷ [] }

-- Of two capabilities for four-octet AS numbers the second counts.
the_second_as_number_does_not_count : (o : OpenValue) → Announces (four_octets 1 ∷ four_octets 2 ∷ []) o → o.four ≡ Some 2 → ⊥
the_second_as_number_does_not_count o announces second = grind (arith, announces.four_is, second)
