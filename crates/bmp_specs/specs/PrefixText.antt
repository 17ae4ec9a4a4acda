-- Prefixes as texts, in the usual form that no RFC fixes for both families: an address, `/` and the number of bits.
use Rattle.std.specs.Prelude.{◌≡◌, ℕ, ◌≤◌, List, ◌∷◌, ◌++◌}
use Rattle.bmp_specs.specs.Address.{prefix_at}
use Rattle.bmp_specs.specs.AddressText.{address_text, IsAddressText}
use Rattle.bmp_specs.specs.NumberText.{number_text, IsNumberText}
use Rattle.bmp_specs.specs.Prefix.{width_of}
use Rattle.bmp_specs.specs.Values.{AddressValue, PrefixValue}

-- `/`
abbrev pub slash : ℕ
slash = 47

-- the text of a prefix
abbrev pub prefix_text : PrefixValue → List ℕ
prefix_text p = address_text p.address ++ (slash ∷ number_text p.bits)

-- the text writes this prefix; bits of its address that are set past the number of bits are cleared
pub record IsPrefixText (text : List ℕ) (p : PrefixValue) : Type 0 where
  pub front : List ℕ
  pub back : List ℕ
  pub address : AddressValue
  pub bits : ℕ
  pub spelled : text ≡ front ++ (slash ∷ back)
  pub is_address : IsAddressText front address
  pub is_number : IsNumberText back bits
  pub within : bits ≤ width_of address.family
  pub value : p ≡ prefix_at address bits
