-- What one look finds.
use Rattle.std.specs.Prelude.{◌≡◌, ℕ, ◌≤◌, true, false, List, Option, MatchOption}
use Rattle.std.specs.List.{Contains}
use Rattle.std.specs.Ordering.{is_gt, is_lt}
use Rattle.bmp_specs.specs.Orders.{prefix_cmp}
use Rattle.bmp_specs.specs.Containment.{HoldsAddress}
use Rattle.bmp_specs.specs.Prefix.{width_of}
use Rattle.bmp_specs.specs.Values.{AddressValue, PrefixValue}

-- the pair is listed, at the place or before it, and no such pair is after it
pub record IsLastPair {T : Type 0} (place : PrefixValue) (es : List (PrefixValue × T)) (e : PrefixValue × T) : Type 0 where
  pub listed : Contains es e
  pub up_to : is_gt (prefix_cmp e.0 place) ≡ false
  pub last : (d : PrefixValue × T) → Contains es d → is_gt (prefix_cmp d.0 place) ≡ false → is_lt (prefix_cmp e.0 d.0) ≡ false

-- the last pair at a place or before it, or that there is none
abbrev pub IsLastUpTo : {T : Type 0} → PrefixValue → List (PrefixValue × T) → Option (PrefixValue × T) → Type 0
IsLastUpTo {T} place es found = MatchOption found ((d : PrefixValue × T) → Contains es d → is_gt (prefix_cmp d.0 place) ≡ true) (IsLastPair place es)

-- every listed prefix that holds the address has at most so many bits, and the address has as many
pub record IsSearching {T : Type 0} (a : AddressValue) (es : List (PrefixValue × T)) (bits : ℕ) : Type 0 where
  pub within : bits ≤ width_of a.family
  pub most : (d : PrefixValue × T) → Contains es d → HoldsAddress d.0 a → d.0.bits ≤ bits
