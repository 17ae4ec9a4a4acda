-- What a prefix holds, in our words: the addresses and the prefixes that begin with its bits.
use Rattle.std.specs.Prelude.{◌≡◌, ◌≤◌}
use Rattle.bmp_specs.specs.Prefix.{first_bits}
use Rattle.bmp_specs.specs.Values.{AddressValue, PrefixValue}

-- the address is of the prefix's family, and begins with the prefix's bits
pub record HoldsAddress (p : PrefixValue) (a : AddressValue) : Type 0 where
  pub family : p.address.family ≡ a.family
  pub agree : first_bits p.bits p.address.octets ≡ first_bits p.bits a.octets

-- the other prefix is at least as long, and begins with this one's bits
pub record ContainsPrefix (p q : PrefixValue) : Type 0 where
  pub shorter : p.bits ≤ q.bits
  pub holds : HoldsAddress p q.address
