-- A prefix on the wire (RFC 4271, section 4.3; RFC 4760, section 5): one byte that says how many bits, and as many bytes
-- as hold them. The RFCs give bits past that number no meaning; that they are cleared is ours.
use Rattle.std.specs.Prelude.{◌≡◌, ℕ, ◌+◌, ◌-◌, ◌/◌, ◌%◌, ◌^◌, ◌≤◌, List, [], ◌∷◌, ◌++◌, length, replicate, take}
use Rattle.bmp_specs.specs.declared.wire.Family.{Family}
use Rattle.bmp_specs.specs.declared.wire.Family.TheVariants.{V4, V6}
use Rattle.bmp_specs.specs.Values.{PrefixValue}

-- how many bits an address of the family has
abbrev pub width_of : Family → ℕ
width_of V4 = 32
width_of V6 = 128

-- how many bytes hold so many bits
abbrev pub bytes_for : ℕ → ℕ
bytes_for bits = (bits + 7) / 8

-- the first n bits of a byte, the others zero
abbrev pub high_bits : ℕ → ℕ → ℕ
high_bits n b = b - b % 2 ^ (8 - n)

-- the first n bits of the bytes, the others zero
abbrev pub first_bits : ℕ → List ℕ → List ℕ
first_bits n [] = []
first_bits n (b ∷ bs) = high_bits n b ∷ first_bits (n - 8) bs

-- 16 bytes, the first of which are these
abbrev pub padded : List ℕ → List ℕ
padded bytes = bytes ++ replicate (16 - length bytes) 0

-- the prefix that these bytes stand for
abbrev pub prefix_of : Family → ℕ → List ℕ → PrefixValue
prefix_of family bits sent = record { address = record { family = family; octets = first_bits bits (padded sent) }; bits = bits }

-- so many bits and these bytes are the prefix
pub record Sends (family : Family) (bits : ℕ) (sent : List ℕ) (p : PrefixValue) : Type 0 where
  pub within : bits ≤ width_of family
  pub whole : length sent ≡ bytes_for bits
  pub value : p ≡ prefix_of family bits sent

-- the bytes are this prefix of the family
abbrev pub IsPrefix : Family → List ℕ → PrefixValue → Type 0
IsPrefix family [] p = ⊥
IsPrefix family (bits ∷ sent) p = Sends family bits sent p

-- the prefix stands at the front, in so many bytes
pub record StandsAtFront (family : Family) (bytes : List ℕ) (p : PrefixValue) (size : ℕ) : Type 0 where
  pub within : size ≤ length bytes
  pub is : IsPrefix family (take size bytes) p
