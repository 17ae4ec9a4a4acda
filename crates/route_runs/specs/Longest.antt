-- The longest prefix of a table that holds an address (RFC 1812, section 5.2.4.3).
use Rattle.std.specs.Prelude.{◌≡◌, ◌≤◌, ℕ, true, false, List, Option, MatchOption}
use Rattle.std.specs.List.{Contains}
use Rattle.std.specs.Ordering.{is_gt, is_lt}
use Rattle.bmp_specs.specs.Containment.{HoldsAddress}
use Rattle.bmp_specs.specs.Orders.{prefix_cmp}
use Rattle.bmp_specs.specs.Prefix.{width_of}
use Rattle.bmp_specs.specs.Values.{AddressValue, NlriValue, PrefixValue}

-- a pair is listed whose NLRI has this prefix, with a path identifier or without
pub record HasPrefix {A : Type 0} (es : List (NlriValue × A)) (p : PrefixValue) : Type 0 where
  pub row : NlriValue × A
  pub listed : Contains es row
  pub same : row.0.prefix ≡ p

-- the prefix is listed and holds the address, and no listed prefix that holds it is longer
pub record IsLongestPrefix {A : Type 0} (a : AddressValue) (es : List (NlriValue × A)) (p : PrefixValue) : Type 0 where
  pub listed : HasPrefix es p
  pub holds : HoldsAddress p a
  pub longest : (q : PrefixValue) → HasPrefix es q → HoldsAddress q a → q.bits ≤ p.bits

-- no listed prefix holds the address
abbrev pub NoneHolds : {A : Type 0} → AddressValue → List (NlriValue × A) → Type 0
NoneHolds {A} a es = (q : PrefixValue) → HasPrefix es q → ¬ (HoldsAddress q a)

-- the longest match, or that there is none
abbrev pub IsLongest : {A : Type 0} → AddressValue → List (NlriValue × A) → Option PrefixValue → Type 0
IsLongest {A} a es found = MatchOption found (NoneHolds a es) (IsLongestPrefix a es)

-- ---- inside
-- the prefix of a row
abbrev pub row_prefix : {A : Type 0} → NlriValue × A → PrefixValue
row_prefix e = e.0.prefix

-- the prefix is listed, at the place or before it, and no such prefix is after it
pub record IsLastPrefix {A : Type 0} (es : List (NlriValue × A)) (place p : PrefixValue) : Type 0 where
  pub listed : HasPrefix es p
  pub up_to : is_gt (prefix_cmp p place) ≡ false
  pub last : (q : PrefixValue) → HasPrefix es q → is_gt (prefix_cmp q place) ≡ false → is_lt (prefix_cmp p q) ≡ false

-- the last prefix at a place or before it, or that there is none
abbrev pub IsLastUpTo : {A : Type 0} → List (NlriValue × A) → PrefixValue → Option PrefixValue → Type 0
IsLastUpTo {A} es place found = MatchOption found ((q : PrefixValue) → HasPrefix es q → is_gt (prefix_cmp q place) ≡ true) (IsLastPrefix es place)

-- every listed prefix that holds the address has at most so many bits, and the address has as many
pub record IsSearching {A : Type 0} (a : AddressValue) (es : List (NlriValue × A)) (bits : ℕ) : Type 0 where
  pub within : bits ≤ width_of a.family
  pub most : (q : PrefixValue) → HasPrefix es q → HoldsAddress q a → q.bits ≤ bits
