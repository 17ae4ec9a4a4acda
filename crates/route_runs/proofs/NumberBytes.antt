-- The numbers of an NLRI stand for it.
use Rattle.std.proofs.Common.{◌≡◌, ℕ, zero, suc, ◌+◌, ◌*◌, ◌/◌, ◌%◌, ◌<◌, ◌≤◌, List, [], ◌∷◌, ◌++◌, Option, Some, None, length, take, drop, get_or, sym, ap, ◌∙◌, subst, arith, length-take, length-drop, take-append-drop}
use Rattle.std.specs.Int.{w32, w64, to_be_bytes, from_be_bytes}
use Rattle.std.proofs.lemmas.List.{get_or-take, get_or-drop}
use Rattle.std.proofs.lemmas.Nat.{be_bytes_4, be_bytes_8}
use Rattle.bmp_specs.specs.declared.wire.Family.{Family}
use Rattle.bmp_specs.specs.declared.wire.Family.TheVariants.{V4, V6}
use Rattle.bmp_specs.specs.Address.{FitsFamily, IsAddressPrefix, prefix_at}
use Rattle.bmp_specs.specs.Prefix.{first_bits, padded, width_of}
use Rattle.bmp_specs.specs.Values.{AddressValue, PrefixValue, NlriValue}
use Rattle.bmp_specs.proofs.FirstBits.{AreBytes}
use Rattle.route_runs.specs.NumberKeys.{octets4, octets6, mark_of, id_of, id_at, bits_of, nlri_of, IsKey}

bytes_take : (n : ℕ) (xs : List ℕ) → AreBytes xs → AreBytes (take n xs)
bytes_take zero xs bytes k = omega arith
bytes_take (suc n) [] bytes k = bytes k
bytes_take (suc n) (x ∷ xs) bytes zero = bytes 0
bytes_take (suc n) (x ∷ xs) bytes (suc k) = bytes_take n xs (λ j. bytes (suc j)) k

-- a number reads its own bytes alone
first4 : (os : List ℕ) → from_be_bytes w32 os ≡ from_be_bytes w32 (take 4 os)
first4 os =
    let at : (k : ℕ) → k < 4 → get_or (take 4 os) k 0 ≡ get_or os k 0 = λ k. get_or-take 4 os k 0 in
    omega (arith, at 0 (omega arith), at 1 (omega arith), at 2 (omega arith), at 3 (omega arith))

first8 : (os : List ℕ) → from_be_bytes w64 os ≡ from_be_bytes w64 (take 8 os)
first8 os =
    let at : (k : ℕ) → k < 8 → get_or (take 8 os) k 0 ≡ get_or os k 0 = λ k. get_or-take 8 os k 0 in
    omega (arith, at 0 (omega arith), at 1 (omega arith), at 2 (omega arith), at 3 (omega arith), at 4 (omega arith), at 5 (omega arith), at 6 (omega arith), at 7 (omega arith))

pub last8 : (os : List ℕ) → from_be_bytes w64 (get_or os 8 0 ∷ get_or os 9 0 ∷ get_or os 10 0 ∷ get_or os 11 0 ∷ get_or os 12 0 ∷ get_or os 13 0 ∷ get_or os 14 0 ∷ get_or os 15 0 ∷ []) ≡ from_be_bytes w64 (drop 8 os)
last8 os =
    let at : (k : ℕ) → get_or (drop 8 os) k 0 ≡ get_or os (8 + k) 0 = λ k. get_or-drop 8 os k 0 in
    omega (arith, at 0, at 1, at 2, at 3, at 4, at 5, at 6, at 7)

-- the bytes of an address, from its numbers
pub octets4_of : (os : List ℕ) (n : ℕ) → length os ≡ 16 → AreBytes os → FitsFamily V4 os → n ≡ from_be_bytes w32 os → octets4 n ≡ os
unfolding octets4
octets4_of os n len bytes used is = ap padded (be_bytes_4 (take 4 os) n (omega (arith, length-take 4 os)) (bytes_take 4 os bytes) (is ∙ first4 os)) ∙ sym used

pub octets6_of : (os : List ℕ) (high low : ℕ) → length os ≡ 16 → AreBytes os → high ≡ from_be_bytes w64 os → low ≡ from_be_bytes w64 (drop 8 os) → octets6 (high, low) ≡ os
unfolding octets6
octets6_of os high low len bytes is_high is_low =
    let front = be_bytes_8 (take 8 os) high (omega (arith, length-take 8 os)) (bytes_take 8 os bytes) (is_high ∙ first8 os) in
    let back = be_bytes_8 (drop 8 os) low (omega (arith, length-drop 8 os)) (λ k. subst (λ (b : ℕ). b < 256) (sym (get_or-drop 8 os k 0)) (bytes (8 + k))) is_low in
    (λ i. front i ++ back i) ∙ take-append-drop 8 os

pub octets4_is : (bytes : List ℕ) (n : ℕ) → bytes ≡ to_be_bytes w32 n → padded bytes ≡ octets4 n
unfolding octets4
octets4_is bytes n e = ap padded e

-- eight bytes one by one, and more
abbrev eight : List ℕ → List ℕ → List ℕ
eight xs more = get_or xs 0 0 ∷ get_or xs 1 0 ∷ get_or xs 2 0 ∷ get_or xs 3 0 ∷ get_or xs 4 0 ∷ get_or xs 5 0 ∷ get_or xs 6 0 ∷ get_or xs 7 0 ∷ more

pub octets6_is : (front back : List ℕ) (high low : ℕ) → front ≡ to_be_bytes w64 high → back ≡ to_be_bytes w64 low → eight front (eight back []) ≡ octets6 (high, low)
unfolding octets6
octets6_is front back high low e f = λ i. eight (e i) (eight (f i) [])

-- the length of a prefix and its identifier, from their numbers
module _ (length : ℕ) (own : Option ℕ) (bits id : ℕ) (b : bits ≡ length * 2 + mark_of own) (e : id ≡ id_of own) where
  pub length_from : bits / 2 ≡ length
  length_from = by own b
    where
      by : (own : Option ℕ) → bits ≡ length * 2 + mark_of own → bits / 2 ≡ length
      by None b = omega arith
      by (Some i) b = omega arith

  pub id_from : id_at (bits % 2) id ≡ own
  id_from = by own b e
    where
      by : (own : Option ℕ) → bits ≡ length * 2 + mark_of own → id ≡ id_of own → id_at (bits % 2) id ≡ own
      by None b e = let none : bits % 2 ≡ 0 = omega arith in ap (λ (r : ℕ). id_at r id) none
      by (Some i) b e = let some : bits % 2 ≡ 1 = omega arith in ap (λ (r : ℕ). id_at r id) some ∙ ap Some e

  pub no_id_from : bits % 2 ≡ 0 → id ≡ 0
  no_id_from even = by own b e
    where
      by : (own : Option ℕ) → bits ≡ length * 2 + mark_of own → id ≡ id_of own → id ≡ 0
      by None b e = e
      by (Some i) b e = absurd (omega arith)

-- what the numbers stand for, part by part
pub nlri_from : (v : NlriValue) (family : Family) (octets : List ℕ) (bits id : ℕ) → v.prefix.address.family ≡ family → octets ≡ v.prefix.address.octets → bits ≡ bits_of v → id ≡ id_of v.id → nlri_of family octets bits id ≡ v
nlri_from v family octets bits id is same long own =
    let length = length_from v.prefix.bits v.id bits id long own in
    let mark = id_from v.prefix.bits v.id bits id long own in
    λ i. record { prefix = record { address = record { family = sym is i; octets = same i }; bits = length i }; id = mark i }

-- the first bits of an address that has no others
pub nlri_back : (a : AddressValue) (family : Family) (octets : List ℕ) (bits id : ℕ) (p : PrefixValue) (own : Option ℕ) → a.family ≡ family → a.octets ≡ octets → first_bits (bits / 2) octets ≡ octets
    → p ≡ prefix_at a (bits / 2) → own ≡ id_at (bits % 2) id → record { prefix = p; id = own } ≡ nlri_of family octets bits id
nlri_back a family octets bits id p own is same clear whole mark =
    let rest = ap (first_bits (bits / 2)) same ∙ clear in
    let prefix : p ≡ record { address = record { family = family; octets = octets }; bits = bits / 2 } = whole ∙ (λ i. record { address = record { family = is i; octets = rest i }; bits = bits / 2 }) in
    λ i. record { prefix = prefix i; id = mark i }

few_bits : (family : Family) (bits : ℕ) → bits ≤ width_of family → bits < 256
few_bits V4 bits l = omega (arith, l)
few_bits V6 bits l = omega (arith, l)

-- the numbers that are taken from an NLRI
module _ {N : Type 0} (octets : N → List ℕ) (number : List ℕ → N) (v : NlriValue) (family : Family) (address : N) (bits id : ℕ) (is : v.prefix.address.family ≡ family) (same : octets address ≡ v.prefix.address.octets)
    (long : bits ≡ bits_of v) (own : id ≡ id_of v.id) where
  pub key_is : nlri_of family (octets address) bits id ≡ v
  key_is = nlri_from v family (octets address) bits id is same long own

  pub key_valid : IsAddressPrefix v.prefix → number (octets address) ≡ address → id < 4294967296 → IsKey family octets number address bits id
  key_valid valid back few =
      let own_bits = length_from v.prefix.bits v.id bits id long own in
      record {
        prefix = subst (λ (w : NlriValue). IsAddressPrefix w.prefix) (sym key_is) valid;
        bits_fit = subst (λ (n : ℕ). n < 256) (sym own_bits) (few_bits v.prefix.address.family v.prefix.bits valid.within);
        address_back = back;
        id_fits = few;
        no_id = no_id_from v.prefix.bits v.id bits id long own;
      }
