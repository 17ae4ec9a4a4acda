-- What a table of prefixes is to a contract.
use Rattle.std.specs.Prelude.{◌≡◌, List}
use Rattle.bmp_specs.specs.declared.wire.Family.{Family}
use Rattle.bmp_specs.specs.Address.{IsAddressPrefix}
use Rattle.bmp_specs.specs.Values.{PrefixValue}

-- a family, and pairs of a prefix of it and a value, in prefix order
pub record TableValue (T : Type 0) : Type 0 where
  pub family : Family
  pub pairs : List (PrefixValue × T)

-- a prefix of the family
pub record IsOfFamily (family : Family) (p : PrefixValue) : Type 0 where
  pub same : p.address.family ≡ family
  pub exact : IsAddressPrefix p
