-- What VRPs say of a route (RFC 6811, section 2).
use Rattle.std.specs.Prelude.{◌≡◌, ◌≢◌, ℕ, ◌≤◌, ◌==◌, leb, Bool, false, not, ◌&&◌, if◌then◌else◌, List, Option, None, Some}
use Rattle.std.specs.Cmp.Lexicographic.{slice_cmp}
use Rattle.std.specs.List.{Contains, list_any}
use Rattle.std.specs.Ordering.{is_eq, nat_cmp}
use Rattle.bmp_specs.specs.Containment.{ContainsPrefix}
use Rattle.bmp_specs.specs.Orders.{family_cmp}
use Rattle.bmp_specs.specs.Prefix.{first_bits}
use Rattle.bmp_specs.specs.Values.{PrefixValue}
use Rattle.rov_table.specs.declared.vrp.Vrp.{Vrp}
use Rattle.rov_table.specs.declared.vrp.Verdict.{Verdict}
use Rattle.rov_table.specs.declared.vrp.Verdict.TheVariants.{Valid, Invalid, NotFound}

-- "Covered": "the VRP prefix length is less than or equal to the Route prefix length, and the VRP prefix address and the Route
-- prefix address are identical for all bits specified by the VRP prefix length"
abbrev pub Covers : Vrp → PrefixValue → Type 0
Covers v p = ContainsPrefix v.prefix p

-- "the Route prefix length is less than or equal to the VRP maximum length, and the Route Origin ASN is equal to the VRP ASN";
-- "no Route can be Matched by a VRP whose ASN is zero"
pub record Allows (v : Vrp) (p : PrefixValue) (origin : Option ℕ) : Type 0 where
  pub short : p.bits ≤ v.max
  pub some : v.asn ≢ 0
  pub same : origin ≡ Some v.asn

-- "Matched"
abbrev pub Matches : Vrp → PrefixValue → Option ℕ → Type 0
Matches v p origin = Covers v p × Allows v p origin

-- "Valid: At least one VRP Matches the Route Prefix. Invalid: At least one VRP Covers the Route Prefix, but no VRP Matches it.
-- NotFound: No VRP Covers the Route Prefix."
abbrev pub IsVerdict : List Vrp → PrefixValue → Option ℕ → Verdict → Type 0
IsVerdict vrps p origin Valid = (v : Vrp) × Contains vrps v × Matches v p origin
IsVerdict vrps p origin Invalid = ((v : Vrp) × Contains vrps v × Covers v p) × ((v : Vrp) → Contains vrps v → Matches v p origin → ⊥)
IsVerdict vrps p origin NotFound = (v : Vrp) → Contains vrps v → Covers v p → ⊥

-- ---- the same by tests
abbrev pub contains : PrefixValue → PrefixValue → Bool
contains p q = leb p.bits q.bits && (is_eq (family_cmp p.address.family q.address.family) && is_eq (slice_cmp nat_cmp (first_bits p.bits p.address.octets) (first_bits p.bits q.address.octets)))

abbrev pub is_number : ℕ → Option ℕ → Bool
is_number asn None = false
is_number asn (Some n) = n == asn

abbrev pub matches : Vrp → PrefixValue → Option ℕ → Bool
matches v p origin = contains v.prefix p && (leb p.bits v.max && (not (v.asn == 0) && is_number v.asn origin))

-- the verdict on a route to a prefix with this origin
abbrev pub verdict_of : List Vrp → PrefixValue → Option ℕ → Verdict
verdict_of vrps p origin = if list_any (λ v. matches v p origin) vrps then Valid else (if list_any (λ v. contains v.prefix p) vrps then Invalid else NotFound)
