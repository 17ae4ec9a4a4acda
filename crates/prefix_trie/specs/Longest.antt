-- The longest prefix of a list that holds an address (RFC 1812, section 5.2.4.3).
use Rattle.std.specs.Prelude.{◌≤◌, List, Option, MatchOption}
use Rattle.std.specs.List.{Contains}
use Rattle.bmp_specs.specs.Containment.{HoldsAddress}
use Rattle.bmp_specs.specs.Values.{AddressValue, PrefixValue}

-- the pair is listed, its prefix holds the address, and no listed prefix that holds it is longer
pub record IsLongestPair {T : Type 0} (a : AddressValue) (es : List (PrefixValue × T)) (e : PrefixValue × T) : Type 0 where
  pub listed : Contains es e
  pub holds : HoldsAddress e.0 a
  pub longest : (d : PrefixValue × T) → Contains es d → HoldsAddress d.0 a → d.0.bits ≤ e.0.bits

-- no listed prefix holds the address
abbrev pub NoneHolds : {T : Type 0} → AddressValue → List (PrefixValue × T) → Type 0
NoneHolds {T} a es = (d : PrefixValue × T) → Contains es d → ¬ (HoldsAddress d.0 a)

-- the longest match, or that there is none
abbrev pub IsLongest : {T : Type 0} → AddressValue → List (PrefixValue × T) → Option (PrefixValue × T) → Type 0
IsLongest a es found = MatchOption found (NoneHolds a es) (IsLongestPair a es)
