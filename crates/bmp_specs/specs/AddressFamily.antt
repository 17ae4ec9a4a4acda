-- The address families that are read, by their numbers on the wire (RFC 4760, section 3).
use Rattle.std.specs.Prelude.{ℕ, Bool, ◌==◌, ◌&&◌, if◌then◌else◌, Option, Some, None}
use Rattle.bmp_specs.specs.declared.wire.Family.{Family}
use Rattle.bmp_specs.specs.declared.wire.Family.TheVariants.{V4, V6}
use Rattle.bmp_specs.specs.declared.wire.IdUse.{IdUse}

-- "Address Family Identifier (AFI)": 1 for IP, 2 for IP6
abbrev pub afi_of : Family → ℕ
afi_of V4 = 1
afi_of V6 = 2

-- "Subsequent Address Family Identifier (SAFI)": 1 for unicast forwarding (RFC 4760, section 6)
abbrev pub unicast : ℕ
unicast = 1

-- whether the pair is unicast of this family
abbrev pub is_unicast_of : Family → ℕ → ℕ → Bool
is_unicast_of family afi safi = afi == afi_of family && safi == unicast

-- the family whose unicast the pair is, where there is one
abbrev pub unicast_family : ℕ → ℕ → Option Family
unicast_family afi safi = if is_unicast_of V4 afi safi then Some V4 else (if is_unicast_of V6 afi safi then Some V6 else None)

-- whether prefixes of the family have path identifiers
abbrev pub uses_ids : IdUse → Family → Bool
uses_ids ids V4 = ids.v4
uses_ids ids V6 = ids.v6
