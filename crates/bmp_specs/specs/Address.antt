-- What an address and a prefix keep; the form, 16 bytes for both families, is ours.
use Rattle.std.specs.Prelude.{◌≡◌, ℕ, ◌<◌, ◌≤◌, List, length, take, slice_index}
use Rattle.bmp_specs.specs.declared.wire.Family.{Family}
use Rattle.bmp_specs.specs.declared.wire.Family.TheVariants.{V4, V6}
use Rattle.bmp_specs.specs.Prefix.{width_of, first_bits, padded}
use Rattle.bmp_specs.specs.Values.{AddressValue, PrefixValue}

-- an IPv4 address uses the first four bytes, and the others are zero
abbrev pub FitsFamily : Family → List ℕ → Type 0
FitsFamily V4 octets = octets ≡ padded (take 4 octets)
FitsFamily V6 octets = Unit {0}

-- 16 bytes, and no byte past the family's
pub record IsAddress (a : AddressValue) : Type 0 where
  pub len : length a.octets ≡ 16
  pub bytes : (k : ℕ) → slice_index a.octets k < 256
  pub used : FitsFamily a.family a.octets

-- an address, and no bit of it is set past the number of bits
pub record IsAddressPrefix (p : PrefixValue) : Type 0 where
  pub address : IsAddress p.address
  pub within : p.bits ≤ width_of p.address.family
  pub clear : first_bits p.bits p.address.octets ≡ p.address.octets

-- the first bits of an address, the others cleared
abbrev pub prefix_at : AddressValue → ℕ → PrefixValue
prefix_at a bits = record { address = record { family = a.family; octets = first_bits bits a.octets }; bits = bits }
