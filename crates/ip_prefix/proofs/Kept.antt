-- What clearing the last bits of an address keeps.
use Rattle.std.proofs.Common.{◌≡◌, ℕ, zero, suc, ◌+◌, ◌<◌, ◌≤◌, ◌-◌, ◌*◌, ◌/◌, ◌%◌, ◌^◌, List, [], ◌∷◌, ◌++◌, length, take, drop, get_or, refl, sym, ap, ◌∙◌, arith, replicate, length-append, length-take, take-append-drop, append_assoc}
use Rattle.std.proofs.lemmas.List.{length-replicate, replicate-append-replicate}
use Rattle.std.proofs.Math.Seq.{drop-append_seam}
use Rattle.std.proofs.Math.Nat.{mul-mod_left}
use Rattle.std.proofs.lemmas.Nat.{div-add-mod'}
use Rattle.bmp_specs.specs.declared.wire.Family.{Family}
use Rattle.bmp_specs.specs.declared.wire.Family.TheVariants.{V4, V6}
use Rattle.bmp_specs.specs.Address.{FitsFamily, IsAddress, IsAddressPrefix, prefix_at}
use Rattle.bmp_specs.specs.Prefix.{high_bits, first_bits, padded, bytes_for, width_of}
use Rattle.bmp_specs.specs.Values.{AddressValue}

pub length-first_bits : (n : ℕ) (xs : List ℕ) → length (first_bits n xs) ≡ length xs
length-first_bits n [] = refl
length-first_bits n (x ∷ xs) = ap suc (length-first_bits (n - 8) xs)

pub first_bits_below : (n : ℕ) (xs : List ℕ) → ((k : ℕ) → get_or xs k 0 < 256) → (k : ℕ) → get_or (first_bits n xs) k 0 < 256
first_bits_below n [] below k = below k
first_bits_below n (x ∷ xs) below zero = omega (arith, below 0)
first_bits_below n (x ∷ xs) below (suc k) = first_bits_below (n - 8) xs (λ j. below (suc j)) k

-- n less its rest is a multiple
high_twice : (n m : ℕ) → (n - n % m) - (n - n % m) % m ≡ n - n % m
high_twice n m =
    let whole : n - n % m ≡ n / m * m = omega (arith, div-add-mod' n m) in
    let none : (n - n % m) % m ≡ 0 = ap (λ (k : ℕ). k % m) whole ∙ mul-mod_left (n / m) m in
    omega arith

pub first_bits_twice : (n : ℕ) (xs : List ℕ) → first_bits n (first_bits n xs) ≡ first_bits n xs
first_bits_twice n [] = refl
first_bits_twice n (x ∷ xs) = ap (λ (b : ℕ). b ∷ first_bits (n - 8) (first_bits (n - 8) xs)) (high_twice x (2 ^ (8 - n))) ∙ ap (λ (l : List ℕ). high_bits n x ∷ l) (first_bits_twice (n - 8) xs)

zero_stays : (m : ℕ) → 0 - 0 % m ≡ 0
zero_stays m = omega arith

pub zeros_stay : (n k : ℕ) → first_bits n (replicate k 0) ≡ replicate k 0
zeros_stay n zero = refl
zeros_stay n (suc k) = ap (λ (b : ℕ). b ∷ first_bits (n - 8) (replicate k 0)) (zero_stays (2 ^ (8 - n))) ∙ ap (λ (l : List ℕ). 0 ∷ l) (zeros_stay (n - 8) k)

drop-first_bits : (k n : ℕ) (xs : List ℕ) → drop k (first_bits n xs) ≡ first_bits (n - 8 * k) (drop k xs)
drop-first_bits zero n xs = ap (λ (m : ℕ). first_bits m xs) (omega arith)
drop-first_bits (suc k) n [] = refl
drop-first_bits (suc k) n (x ∷ xs) = drop-first_bits k (n - 8) xs ∙ ap (λ (m : ℕ). first_bits m (drop k xs)) (omega arith)

-- an address of IPv4 is zero from its fifth byte on
used_from : (xs : List ℕ) → length xs ≡ 16 → drop 4 xs ≡ replicate 12 0 → xs ≡ padded (take 4 xs)
used_from xs len rest =
    let four : 16 - length (take 4 xs) ≡ 12 = omega (arith, length-take 4 xs) in
    sym (take-append-drop 4 xs) ∙ ap (λ (l : List ℕ). take 4 xs ++ l) (rest ∙ ap (λ (k : ℕ). replicate k 0) (sym four))

used_to : (xs : List ℕ) → length xs ≡ 16 → xs ≡ padded (take 4 xs) → drop 4 xs ≡ replicate 12 0
used_to xs len used =
    let four : length (take 4 xs) ≡ 4 = omega (arith, length-take 4 xs) in
    let zeros = replicate (16 - length (take 4 xs)) 0 in
    ap (λ (l : List ℕ). drop 4 l) used ∙ ap (λ (k : ℕ). drop k (take 4 xs ++ zeros)) (sym four) ∙ drop-append_seam (take 4 xs) zeros ∙ ap (λ (k : ℕ). replicate (16 - k) 0) four

pub FitsFamily-first_bits : (family : Family) (n : ℕ) (xs : List ℕ) → length xs ≡ 16 → FitsFamily family xs → FitsFamily family (first_bits n xs)
FitsFamily-first_bits V4 n xs len used =
    let rest : drop 4 (first_bits n xs) ≡ replicate 12 0 = drop-first_bits 4 n xs ∙ ap (λ (l : List ℕ). first_bits (n - 32) l) (used_to xs len used) ∙ zeros_stay (n - 32) 12 in
    used_from (first_bits n xs) (length-first_bits n xs ∙ len) rest
FitsFamily-first_bits V6 n xs len used = tt

-- the prefix of an address is one
pub IsAddressPrefix-prefix_at : (a : AddressValue) (bits : ℕ) → IsAddress a → bits ≤ width_of a.family → IsAddressPrefix (prefix_at a bits)
IsAddressPrefix-prefix_at a bits is within = record {
  address = record { len = length-first_bits bits a.octets ∙ is.len; bytes = first_bits_below bits a.octets is.bytes; used = FitsFamily-first_bits a.family bits a.octets is.len is.used };
  within = within;
  clear = first_bits_twice bits a.octets;
}

-- the bytes of an IPv4 prefix are four at most
pub FitsFamily-sent : (family : Family) (bits : ℕ) (sent : List ℕ) → bits ≤ width_of family → length sent ≡ bytes_for bits → FitsFamily family (padded sent)
FitsFamily-sent V4 bits sent within whole =
    let few : length sent ≤ 4 = omega arith in
    let front = sent ++ replicate (4 - length sent) 0 in
    let zeros : replicate (4 - length sent) 0 ++ replicate 12 0 ≡ replicate (16 - length sent) 0 = replicate-append-replicate (4 - length sent) 12 0 ∙ ap (λ (k : ℕ). replicate k 0) (omega arith) in
    let whole : padded sent ≡ front ++ replicate 12 0 = ap (λ (l : List ℕ). sent ++ l) (sym zeros) ∙ sym (append_assoc sent (replicate (4 - length sent) 0) (replicate 12 0)) in
    let four : length front ≡ 4 = length-append sent (replicate (4 - length sent) 0) ∙ ap (λ (k : ℕ). length sent + k) (length-replicate {A = ℕ} (4 - length sent) 0) ∙ omega arith in
    let len : length (padded sent) ≡ 16 = length-append sent (replicate (16 - length sent) 0) ∙ ap (λ (k : ℕ). length sent + k) (length-replicate {A = ℕ} (16 - length sent) 0) ∙ omega arith in
    used_from (padded sent) len (ap (λ (l : List ℕ). drop 4 l) whole ∙ ap (λ (k : ℕ). drop k (front ++ replicate 12 0)) (sym four) ∙ drop-append_seam front (replicate 12 0))
FitsFamily-sent V6 bits sent within whole = tt
