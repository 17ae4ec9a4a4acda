-- An NLRI in a few numbers that stand in its order.
use Rattle.std.specs.Prelude.{◌≡◌, ℕ, zero, suc, ◌+◌, ◌*◌, ◌/◌, ◌%◌, ◌<◌, List, ◌++◌, Option, Some, None}
use Rattle.std.specs.declared.cmp.Ordering.{Ordering}
use Rattle.std.specs.Cmp.Lexicographic.{slice_cmp}
use Rattle.std.specs.Int.{w32, w64, to_be_bytes}
use Rattle.std.specs.Ordering.{nat_cmp}
use Rattle.std.proofs.Common.{arith, refl, sym}
use Rattle.bmp_specs.specs.declared.wire.Family.{Family}
use Rattle.bmp_specs.specs.Address.{IsAddress, IsAddressPrefix}
use Rattle.bmp_specs.specs.Prefix.{padded}
use Rattle.bmp_specs.specs.Values.{NlriValue}

-- the bytes of the IPv4 address that is this number
unfoldable pub octets4 : ℕ → List ℕ
octets4 address = padded (to_be_bytes w32 address)

-- the bytes of the IPv6 address whose halves are these numbers
unfoldable pub octets6 : ℕ × ℕ → List ℕ
octets6 halves = to_be_bytes w64 halves.0 ++ to_be_bytes w64 halves.1

-- the bytes are those of an address of this family
abbrev pub AreOctetsOf : Family → List ℕ → Type 0
AreOctetsOf family octets = IsAddress (record { family = family; octets = octets })

-- the numbers of a family's addresses stand in the order of their bytes
abbrev pub StandAsOctets : {A : Type 0} → (A → A → Ordering) → Family → (A → List ℕ) → (List ℕ → A) → Type 0
StandAsOctets {A} cmp family octets number = (a b : A) → number (octets a) ≡ a → number (octets b) ≡ b
    → AreOctetsOf family (octets a) → AreOctetsOf family (octets b) → cmp a b ≡ slice_cmp nat_cmp (octets a) (octets b)

-- the path identifier, where the mark isn't zero
abbrev pub id_at : ℕ → ℕ → Option ℕ
id_at zero id = None
id_at (suc mark) id = Some id

-- the NLRI of these bytes; the bits are twice the length of the prefix, and one more where there is a path identifier
abbrev pub nlri_of : Family → List ℕ → ℕ → ℕ → NlriValue
nlri_of family octets bits id = record { prefix = record { address = record { family = family; octets = octets }; bits = bits / 2 }; id = id_at (bits % 2) id }

-- the numbers of an NLRI
abbrev pub mark_of : Option ℕ → ℕ
mark_of None = 0
mark_of (Some id) = 1

abbrev pub id_of : Option ℕ → ℕ
id_of None = 0
id_of (Some id) = id

abbrev pub bits_of : NlriValue → ℕ
bits_of n = n.prefix.bits * 2 + mark_of n.id

-- the numbers are those of an NLRI of this family
pub record IsKey {N : Type 0} (family : Family) (octets : N → List ℕ) (number : List ℕ → N) (address : N) (bits id : ℕ) : Type 0 where
  pub prefix : IsAddressPrefix (nlri_of family (octets address) bits id).prefix
  pub bits_fit : bits / 2 < 256
  pub address_back : number (octets address) ≡ address
  pub id_fits : id < 4294967296
  pub no_id : bits % 2 ≡ 0 → id ≡ 0

-- the numbers of the NLRI that numbers stand for are these
pub bits_back : (bits id : ℕ) → bits / 2 * 2 + mark_of (id_at (bits % 2) id) ≡ bits
bits_back bits id = by (bits % 2) refl
  where
    by : (r : ℕ) → bits % 2 ≡ r → bits / 2 * 2 + mark_of (id_at r id) ≡ bits
    by zero e = omega arith
    by (suc r) e = omega arith

pub id_back : (bits id : ℕ) → (bits % 2 ≡ 0 → id ≡ 0) → id_of (id_at (bits % 2) id) ≡ id
id_back bits id none = by (bits % 2) none
  where
    by : (r : ℕ) → (r ≡ 0 → id ≡ 0) → id_of (id_at r id) ≡ id
    by zero none = sym (none refl)
    by (suc r) none = refl
