-- What an NLRI keeps.
use Rattle.std.specs.Prelude.{◌≡◌, ℕ, ◌<◌, Bool, true, false, List, Some}
use Rattle.std.specs.List.{filter}
use Rattle.std.specs.Option.{is_some}
use Rattle.bmp_specs.specs.Address.{IsAddressPrefix}
use Rattle.bmp_specs.specs.declared.wire.Family.{Family}
use Rattle.bmp_specs.specs.declared.wire.Family.TheVariants.{V4, V6}
use Rattle.bmp_specs.specs.Orders.{nlri_cmp}
use Rattle.bmp_specs.specs.Values.{NlriValue}
use Rattle.route_runs.specs.Override.{value_at}

-- a prefix, and a path identifier of 32 bits where there is one
pub record IsNlri (n : NlriValue) : Type 0 where
  pub prefix : IsAddressPrefix n.prefix
  pub id : (i : ℕ) → n.id ≡ Some i → i < 4294967296

-- one of this family
pub record IsNlriOf (which : Family) (n : NlriValue) : Type 0 where
  pub nlri : IsNlri n
  pub family : n.prefix.address.family ≡ which

-- each that a list has is one
abbrev pub AreNlri : {X : Type 0} → List (NlriValue × X) → Type 0
AreNlri es = (q : NlriValue) → is_some (value_at nlri_cmp q es) ≡ true → IsNlri q

-- whether two families are the same
abbrev pub is_same : Family → Family → Bool
is_same V4 V4 = true
is_same V4 V6 = false
is_same V6 V4 = false
is_same V6 V6 = true

-- whether an NLRI is of a family
abbrev pub is_family : Family → NlriValue → Bool
is_family family n = is_same n.prefix.address.family family

-- the pairs of a family
abbrev pub with_family : {X : Type 0} → Family → List (NlriValue × X) → List (NlriValue × X)
with_family family es = filter (λ e. is_family family e.0) es

-- ---- inside
-- each that a list has passes a test
abbrev pub AreKeys : {X : Type 0} → (NlriValue → Type 0) → List (NlriValue × X) → Type 0
AreKeys P es = (q : NlriValue) → is_some (value_at nlri_cmp q es) ≡ true → P q

-- a list of IPv4 and one of IPv6
pub record AreHalves {X : Type 0} (es fs : List (NlriValue × X)) : Type 0 where
  pub low : AreKeys (IsNlriOf V4) es
  pub high : AreKeys (IsNlriOf V6) fs

-- the NLRI of a family
abbrev pub of_family : Family → List NlriValue → List NlriValue
of_family family ns = filter (is_family family) ns
