-- The first bits of bytes, by the number that the bytes spell.
use Rattle.std.proofs.Common.{◌≡◌, ℕ, suc, ◌+◌, ◌-◌, ◌*◌, ◌%◌, ◌^◌, ◌<◌, ◌≤◌, inl, inr, List, [], ◌∷◌, ◌++◌, length, replicate, refl, sym, ap, ◌∙◌, arith}
use Rattle.std.specs.Int.{w32, to_be_bytes, from_be_bytes}
use Rattle.std.proofs.lemmas.Bool.{cases_lt}
use Rattle.std.proofs.lemmas.Nat.{be_bytes_4, mod-pow-add, pow-add, shr_high}
use Rattle.std.proofs.Math.Nat.{mul-le-mul_right}
use Rattle.std.proofs.Math.Pow.{mod-mod-pow, low}
use Rattle.bmp_specs.proofs.FirstBits.{AreBytes, all_high}
use Rattle.bmp_specs.specs.Prefix.{first_bits, high_bits, padded}
use Rattle.ip_prefix.proofs.Kept.{length-first_bits, first_bits_below, zeros_stay}

-- the number that the bytes spell, the first byte the highest
abbrev spelled : List ℕ → ℕ
spelled [] = 0
spelled (b ∷ bs) = b * 2 ^ (8 * length bs) + spelled bs

one_above : (b t r : ℕ) → b < 256 → r < t → b * t + r < 256 * t
one_above b t r few less = let more : (b + 1) * t ≤ 256 * t = mul-le-mul_right t (omega arith) in omega arith

spelled_below : (bs : List ℕ) → AreBytes bs → spelled bs < 2 ^ (8 * length bs)
spelled_below [] bytes = omega arith
spelled_below (b ∷ bs) bytes =
    let t = 2 ^ (8 * length bs) in
    let wide : 2 ^ (8 * suc (length bs)) ≡ 256 * t = ap (λ (k : ℕ). 2 ^ k) {x = 8 * suc (length bs)} {y = 8 + 8 * length bs} (omega arith) ∙ pow-add 2 8 (8 * length bs) in
    omega (arith, wide, one_above b t (spelled bs) (bytes 0) (spelled_below bs (λ k. bytes (suc k))))

-- no bit of the bytes
none_spelled : (n : ℕ) (bs : List ℕ) → n ≡ 0 → AreBytes bs → spelled (first_bits n bs) ≡ 0
none_spelled n [] none bytes = refl
none_spelled n (b ∷ bs) none bytes =
    let rest : spelled (first_bits (n - 8) bs) ≡ 0 = none_spelled (n - 8) bs (omega arith) (λ k. bytes (suc k)) in
    let few : b < 256 = bytes 0 in
    let head : high_bits n b ≡ 0 = ap (λ (k : ℕ). high_bits k b) none ∙ omega arith in
    ap (λ (h : ℕ). h * 2 ^ (8 * length (first_bits (n - 8) bs)) + spelled (first_bits (n - 8) bs)) head ∙ omega arith

taken_off : (b c t r : ℕ) → c ≤ b → (b * t + r) - (c * t + r) ≡ (b - c) * t
taken_off b c t r le =
    let d = b - c in
    let parts : b * t ≡ (c + d) * t = ap (λ (k : ℕ). k * t) {x = b} {y = c + d} (omega arith) in
    omega arith

-- the last bits reach into the first byte
in_first : (n b : ℕ) (bs : List ℕ) → n < 8 → AreBytes (b ∷ bs)
    → spelled (b ∷ bs) - spelled (b ∷ bs) % 2 ^ (8 * suc (length bs) - n) ≡ high_bits n b * 2 ^ (8 * length (first_bits (n - 8) bs)) + spelled (first_bits (n - 8) bs)
in_first n b bs few bytes =
    let k = 8 * length bs in
    let r = spelled bs in
    let x = b * 2 ^ k + r in
    let p = 8 - n in
    let less : r < 2 ^ k = spelled_below bs (λ j. bytes (suc j)) in
    let last : x % 2 ^ (8 * suc (length bs) - n) ≡ x % 2 ^ (p + k) = ap (λ (j : ℕ). x % 2 ^ j) {x = 8 * suc (length bs) - n} {y = p + k} (omega arith) in
    let rest : x % 2 ^ (p + k) ≡ b % 2 ^ p * 2 ^ k + r = mod-pow-add x p k ∙ (λ i. shr_high b k r less i % 2 ^ p * 2 ^ k + low b k less i) in
    let off : x - (b % 2 ^ p * 2 ^ k + r) ≡ (b - b % 2 ^ p) * 2 ^ k = taken_off b (b % 2 ^ p) (2 ^ k) r (omega arith) in
    let none : spelled (first_bits (n - 8) bs) ≡ 0 = none_spelled (n - 8) bs (omega arith) (λ j. bytes (suc j)) in
    let same : high_bits n b * 2 ^ (8 * length (first_bits (n - 8) bs)) ≡ high_bits n b * 2 ^ k = ap (λ (l : ℕ). high_bits n b * 2 ^ (8 * l)) (length-first_bits (n - 8) bs) in
    let whole : x - x % 2 ^ (8 * suc (length bs) - n) ≡ (b - b % 2 ^ p) * 2 ^ k = ap (λ (t : ℕ). x - t) (last ∙ rest) ∙ off in
    omega (arith, whole, none, same)

-- the last bits are all after the first byte
behind_first : (n b : ℕ) (bs : List ℕ) → 8 ≤ n → n ≤ 8 * suc (length bs) → AreBytes (b ∷ bs) → spelled bs - spelled bs % 2 ^ (8 * length bs - (n - 8)) ≡ spelled (first_bits (n - 8) bs)
    → spelled (b ∷ bs) - spelled (b ∷ bs) % 2 ^ (8 * suc (length bs) - n) ≡ high_bits n b * 2 ^ (8 * length (first_bits (n - 8) bs)) + spelled (first_bits (n - 8) bs)
behind_first n b bs many within bytes others =
    let k = 8 * length bs in
    let r = spelled bs in
    let x = b * 2 ^ k + r in
    let j = n - 8 in
    let m = k - j in
    let less : r < 2 ^ k = spelled_below bs (λ j. bytes (suc j)) in
    let last : x % 2 ^ (8 * suc (length bs) - n) ≡ x % 2 ^ m = ap (λ (e : ℕ). x % 2 ^ e) {x = 8 * suc (length bs) - n} {y = m} (omega arith) in
    let sum : x % 2 ^ (j + m) ≡ x % 2 ^ k = ap (λ (e : ℕ). x % 2 ^ e) {x = j + m} {y = k} (omega arith) in
    let rest : x % 2 ^ m ≡ r % 2 ^ m = sym (mod-mod-pow x j m) ∙ ap (λ (t : ℕ). t % 2 ^ m) (sum ∙ low b k less) in
    let whole : x - x % 2 ^ (8 * suc (length bs) - n) ≡ x - r % 2 ^ m = ap (λ (t : ℕ). x - t) (last ∙ rest) in
    let most : r % 2 ^ m ≤ r = omega arith in
    let same : high_bits n b * 2 ^ (8 * length (first_bits j bs)) ≡ b * 2 ^ k = (λ i. all_high n b many i * 2 ^ (8 * length-first_bits j bs i)) in
    omega (arith, whole, most, same, others)

-- clearing the last bits of the number clears those of the bytes
spelled_first : (n : ℕ) (bs : List ℕ) → AreBytes bs → n ≤ 8 * length bs → spelled bs - spelled bs % 2 ^ (8 * length bs - n) ≡ spelled (first_bits n bs)
spelled_first n [] bytes within = omega arith
spelled_first n (b ∷ bs) bytes within = elim (cases_lt n 8) [
  | inl few ↦ in_first n b bs few bytes
  | inr many ↦ behind_first n b bs many within bytes (spelled_first (n - 8) bs (λ k. bytes (suc k)) (omega arith))
]

-- four bytes
spelled_four : (bs : List ℕ) → length bs ≡ 4 → spelled bs ≡ from_be_bytes w32 bs
spelled_four [] four = absurd (omega arith)
spelled_four (a ∷ []) four = absurd (omega arith)
spelled_four (a ∷ b ∷ []) four = absurd (omega arith)
spelled_four (a ∷ b ∷ c ∷ []) four = absurd (omega arith)
spelled_four (a ∷ b ∷ c ∷ d ∷ []) four = omega arith
spelled_four (a ∷ b ∷ c ∷ d ∷ e ∷ bs) four = absurd (omega arith)

pub first_of_four : (n w : ℕ) (bs : List ℕ) → length bs ≡ 4 → AreBytes bs → n ≤ 32 → w ≡ from_be_bytes w32 bs → to_be_bytes w32 (w - w % 2 ^ (32 - n)) ≡ first_bits n bs
first_of_four n w bs four bytes within is =
    let word : w ≡ spelled bs = is ∙ sym (spelled_four bs four) in
    let long : 8 * length bs ≡ 32 = omega arith in
    let long_first : length (first_bits n bs) ≡ 4 = length-first_bits n bs ∙ four in
    let same : w - w % 2 ^ (32 - n) ≡ spelled bs - spelled bs % 2 ^ (8 * length bs - n) = λ i. word i - word i % 2 ^ (sym long i - n) in
    be_bytes_4 (first_bits n bs) (w - w % 2 ^ (32 - n)) long_first (first_bits_below n bs bytes)
    (same ∙ spelled_first n bs bytes (omega arith) ∙ spelled_four (first_bits n bs) long_first)

-- zeros after bytes stay zeros
first_then_zeros : (n k : ℕ) (bs : List ℕ) → first_bits n (bs ++ replicate k 0) ≡ first_bits n bs ++ replicate k 0
first_then_zeros n k [] = zeros_stay n k
first_then_zeros n k (b ∷ bs) = ap (λ (l : List ℕ). high_bits n b ∷ l) (first_then_zeros (n - 8) k bs)

pub padded_first : (n : ℕ) (bs : List ℕ) → padded (first_bits n bs) ≡ first_bits n (padded bs)
padded_first n bs = sym (first_then_zeros n (16 - length bs) bs ∙ ap (λ (k : ℕ). first_bits n bs ++ replicate (16 - k) 0) (sym (length-first_bits n bs)))
