-- Who may connect.
use Rattle.std.specs.Prelude.{◌≡◌, ℕ, ◌⊎◌, List, [], ◌∷◌}
use Rattle.std.specs.List.{Any}
use Rattle.std.specs.Net.Addr.{IsIpv4Mapped, MatchIp, ipv4_octets, ipv6_octets, ipv6_segments, low_octets}
use Rattle.std.specs.declared.net.ip_addr.IpAddr.{IpAddr}
use Rattle.bmp_specs.specs.Address.{prefix_at}
use Rattle.bmp_specs.specs.Containment.{HoldsAddress}
use Rattle.bmp_specs.specs.Prefix.{padded}
use Rattle.bmp_specs.specs.Values.{AddressValue, PrefixValue}
use Rattle.bmp_specs.specs.declared.wire.Family.TheVariants.{V4, V6}

-- there is no list, or a prefix of it holds the address
abbrev pub MayConnect : List PrefixValue → AddressValue → Type 0
MayConnect allowed address = (allowed ≡ []) ⊎ Any (λ prefix. HoldsAddress prefix address) allowed

-- The address is the one of the network. An IPv4-mapped IPv6 address (RFC 4291, section 2.5.5.2) is the IPv4 address in it:
-- so IPv4 comes to a listener at `::`.
abbrev pub ComesFrom : IpAddr → AddressValue → Type 0
ComesFrom ip address =
    MatchIp ip
    (λ v4. address ≡ record { family = V4; octets = padded (ipv4_octets v4) })
    (λ v6. (IsIpv4Mapped (ipv6_segments v6) × (address ≡ record { family = V4; octets = padded (low_octets v6) })) ⊎ ((IsIpv4Mapped (ipv6_segments v6) → ⊥) × (address ≡ record { family = V6; octets = ipv6_octets v6 })))

-- what fills the places behind the prefixes of a list
abbrev pub unused : PrefixValue
unused = prefix_at (record { family = V4; octets = padded (0 ∷ 0 ∷ 0 ∷ 0 ∷ []) }) 0
