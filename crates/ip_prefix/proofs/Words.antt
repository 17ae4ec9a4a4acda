-- Bytes as one number, whose quotient has the first bits.
use Rattle.std.proofs.Common.{◌≡◌, ℕ, zero, suc, ◌+◌, ◌<◌, ◌≤◌, ◌-◌, ◌*◌, ◌/◌, ◌%◌, ◌^◌, List, [], ◌∷◌, length, drop, get_or, refl, sym, ap, subst, ◌∙◌, arith, inl, inr, ◌⊎◌, length-drop, replicate}
use Rattle.std.proofs.lemmas.Bool.{cases_lt}
use Rattle.std.proofs.lemmas.List.{drop_all}
use Rattle.std.proofs.lemmas.Nat.{pow_pos, pow-add, shl-shr, shr-shr, shr_high, shr_split, same_from_place}
use Rattle.std.proofs.Math.Seq.{drop-cons}
use Rattle.std.proofs.Math.Nat.{pow-suc, mul-le-mul_right, mul-add-div_right, mul_assoc, add-mul}
use Rattle.byteorder.specs.Endian.{big_from, big_number}
use Rattle.bmp_specs.specs.Prefix.{high_bits, first_bits}
use Rattle.ip_prefix.proofs.Kept.{length-first_bits, first_bits_below}

-- the number that bytes make, the first one highest
abbrev pub worth : List ℕ → ℕ
worth [] = 0
worth (b ∷ bs) = b * 256 ^ length bs + worth bs

big_from-worth : (xs : List ℕ) (i n : ℕ) → i + n ≡ length xs → big_from i n xs ≡ worth (drop i xs)
big_from-worth xs i zero e = ap worth (sym (drop_all i xs (omega arith)))
big_from-worth xs i (suc n) e =
    let here : drop i xs ≡ get_or xs i 0 ∷ drop (suc i) xs = drop-cons xs i 0 (omega arith) in
    let len : length (drop (suc i) xs) ≡ n = omega (arith, ap length here, length-drop i xs) in
    let rest : big_from (suc i) n xs ≡ worth (drop (suc i) xs) = big_from-worth xs (suc i) n (omega arith) in
    ap (λ (m : ℕ). get_or xs i 0 * 256 ^ n + m) rest ∙ ap (λ (m : ℕ). get_or xs i 0 * 256 ^ m + worth (drop (suc i) xs)) (sym len) ∙ ap worth (sym here)

pub big_number-worth : (xs : List ℕ) (n : ℕ) → n ≡ length xs → big_number n xs ≡ worth xs
big_number-worth xs n e = big_from-worth xs 0 n (omega arith)

bytes_pow : (n : ℕ) → 256 ^ n ≡ 2 ^ (8 * n)
bytes_pow zero = refl
bytes_pow (suc n) =
    pow-suc 256 n ∙ ap (λ (m : ℕ). m * 256) (bytes_pow n) ∙ sym (pow-add 2 (8 * n) 8) ∙ ap (λ (m : ℕ). 2 ^ m) (omega arith)

abbrev AreBytes : List ℕ → Type 0
AreBytes xs = (k : ℕ) → get_or xs k 0 < 256

worth_below : (xs : List ℕ) → AreBytes xs → worth xs < 256 ^ length xs
worth_below [] bytes = omega arith
worth_below (x ∷ xs) bytes =
    let ih = worth_below xs (λ k. bytes (suc k)) in
    let step : (x + 1) * 256 ^ length xs ≤ 256 * 256 ^ length xs = mul-le-mul_right (256 ^ length xs) (omega (arith, bytes 0)) in
    omega (arith, ih, step, pow-suc 256 (length xs))

-- bytes that make one number are one
worth_one : (xs ys : List ℕ) → length xs ≡ length ys → AreBytes xs → AreBytes ys → worth xs ≡ worth ys → xs ≡ ys
worth_one [] [] len p q e = refl
worth_one [] (y ∷ ys) len p q e = absurd (omega arith)
worth_one (x ∷ xs) [] len p q e = absurd (omega arith)
worth_one (x ∷ xs) (y ∷ ys) len p q e =
    let same : length xs ≡ length ys = omega arith in
    let less : worth ys < 256 ^ length xs = subst (λ (n : ℕ). worth ys < 256 ^ n) (sym same) (worth_below ys (λ k. q (suc k))) in
    let level : y * 256 ^ length ys + worth ys ≡ y * 256 ^ length xs + worth ys = ap (λ (n : ℕ). y * 256 ^ n + worth ys) (sym same) in
    let both = same_from_place x (worth xs) y (worth ys) (256 ^ length xs) (worth_below xs (λ k. p (suc k))) less (e ∙ level) in
    ap (λ (b : ℕ). b ∷ xs) both.0 ∙ ap (λ (l : List ℕ). y ∷ l) (worth_one xs ys same (λ k. p (suc k)) (λ k. q (suc k)) both.1)

no_bits : (b : ℕ) → b < 256 → high_bits 0 b ≡ 0
no_bits b less = omega arith

worth_none : (xs : List ℕ) → AreBytes xs → worth (first_bits 0 xs) ≡ 0
worth_none [] bytes = refl
worth_none (x ∷ xs) bytes = ap (λ (b : ℕ). b * 256 ^ length (first_bits 0 xs) + worth (first_bits 0 xs)) (no_bits x (bytes 0)) ∙ omega (arith, worth_none xs (λ k. bytes (suc k)))

pub first_none : (xs : List ℕ) → AreBytes xs → first_bits 0 xs ≡ replicate (length xs) 0
first_none [] bytes = refl
first_none (x ∷ xs) bytes = ap (λ (b : ℕ). b ∷ first_bits 0 xs) (no_bits x (bytes 0)) ∙ ap (λ (l : List ℕ). 0 ∷ l) (first_none xs (λ k. bytes (suc k)))

-- all bits of a byte
all_bits : (n b : ℕ) → 8 < n → high_bits n b ≡ b
all_bits n b more = ap (λ (k : ℕ). b - b % 2 ^ k) {x = 8 - n} {y = 0} (omega arith) ∙ omega arith

-- the first bits end within the first byte
within_one : (b r k m w : ℕ) → r < 2 ^ w → m ≡ w + k → (b - b % 2 ^ k) * 2 ^ w + 0 ≡ (b * 2 ^ w + r) / 2 ^ m * 2 ^ m
within_one b r k m w less e =
    let front : (b * 2 ^ w + r) / 2 ^ m ≡ b / 2 ^ k = ap (λ (j : ℕ). (b * 2 ^ w + r) / 2 ^ j) e ∙ sym (shr-shr (b * 2 ^ w + r) w k) ∙ ap (λ (q : ℕ). q / 2 ^ k) (shr_high b w r less) in
    let power : 2 ^ m ≡ 2 ^ k * 2 ^ w = ap (λ (j : ℕ). 2 ^ j) {x = m} {y = k + w} (omega arith) ∙ pow-add 2 k w in
    let kept : b - b % 2 ^ k ≡ b / 2 ^ k * 2 ^ k = omega (arith, shr_split b k) in
    let left : (b - b % 2 ^ k) * 2 ^ w + 0 ≡ b / 2 ^ k * 2 ^ k * 2 ^ w = ap (λ (q : ℕ). q * 2 ^ w + 0) kept ∙ omega arith in
    left ∙ mul_assoc (b / 2 ^ k) (2 ^ k) (2 ^ w) ∙ ap (λ (q : ℕ). b / 2 ^ k * q) (sym power) ∙ ap (λ (q : ℕ). q * 2 ^ m) (sym front)

-- the first bits go on after the first byte
past_one : (b r n m w : ℕ) → n + m ≡ w → b * 2 ^ w + r / 2 ^ m * 2 ^ m ≡ (b * 2 ^ w + r) / 2 ^ m * 2 ^ m
past_one b r n m w e =
    let power : 2 ^ w ≡ 2 ^ n * 2 ^ m = ap (λ (j : ℕ). 2 ^ j) (sym e) ∙ pow-add 2 n m in
    let front : b * 2 ^ w ≡ b * 2 ^ n * 2 ^ m = ap (λ (q : ℕ). b * q) power ∙ sym (mul_assoc b (2 ^ n) (2 ^ m)) in
    let quotient : (b * 2 ^ w + r) / 2 ^ m ≡ b * 2 ^ n + r / 2 ^ m = ap (λ (q : ℕ). (q + r) / 2 ^ m) front ∙ mul-add-div_right (pow_pos m) (b * 2 ^ n) r in
    ap (λ (q : ℕ). q + r / 2 ^ m * 2 ^ m) front ∙ sym (add-mul (b * 2 ^ n) (r / 2 ^ m) (2 ^ m)) ∙ ap (λ (q : ℕ). q * 2 ^ m) (sym quotient)

-- the number of the first bits
worth-first_bits : (n m : ℕ) (xs : List ℕ) → AreBytes xs → n + m ≡ 8 * length xs → worth (first_bits n xs) ≡ worth xs / 2 ^ m * 2 ^ m
worth-first_bits n m [] bytes e = omega arith
worth-first_bits n m (x ∷ xs) bytes e =
    let len : high_bits n x * 256 ^ length (first_bits (n - 8) xs) + worth (first_bits (n - 8) xs) ≡ high_bits n x * 2 ^ (8 * length xs) + worth (first_bits (n - 8) xs) = ap (λ (l : ℕ). high_bits n x * 256 ^ l + worth (first_bits (n - 8) xs)) (length-first_bits (n - 8) xs) ∙ ap (λ (p : ℕ). high_bits n x * p + worth (first_bits (n - 8) xs)) (bytes_pow (length xs)) in
    let whole : worth (x ∷ xs) ≡ x * 2 ^ (8 * length xs) + worth xs = ap (λ (p : ℕ). x * p + worth xs) (bytes_pow (length xs)) in
    len ∙ by (cases_lt 8 n) (λ k. worth-first_bits (n - 8) m xs (λ j. bytes (suc j)) k) ∙ ap (λ (w : ℕ). w / 2 ^ m * 2 ^ m) (sym whole)
  where
    by : (8 < n) ⊎ (n ≤ 8) → (n - 8 + m ≡ 8 * length xs → worth (first_bits (n - 8) xs) ≡ worth xs / 2 ^ m * 2 ^ m) → high_bits n x * 2 ^ (8 * length xs) + worth (first_bits (n - 8) xs) ≡ (x * 2 ^ (8 * length xs) + worth xs) / 2 ^ m * 2 ^ m
    by (inl more) later = ap (λ (w : ℕ). high_bits n x * 2 ^ (8 * length xs) + w) (later (omega arith)) ∙ ap (λ (b : ℕ). b * 2 ^ (8 * length xs) + worth xs / 2 ^ m * 2 ^ m) (all_bits n x more) ∙ past_one x (worth xs) (n - 8) m (8 * length xs) (omega arith)
    by (inr few) later =
        let none : worth (first_bits (n - 8) xs) ≡ 0 = ap (λ (k : ℕ). worth (first_bits k xs)) {x = n - 8} {y = 0} (omega arith) ∙ worth_none xs (λ k. bytes (suc k)) in
        let less : worth xs < 2 ^ (8 * length xs) = subst (λ (p : ℕ). worth xs < p) (bytes_pow (length xs)) (worth_below xs (λ k. bytes (suc k))) in
        ap (λ (w : ℕ). high_bits n x * 2 ^ (8 * length xs) + w) none ∙ within_one x (worth xs) (8 - n) m (8 * length xs) less (omega arith)

-- the first bits agree exactly where the quotients do
pub agree_to : (n m : ℕ) (xs ys : List ℕ) → AreBytes xs → AreBytes ys → n + m ≡ 8 * length xs → n + m ≡ 8 * length ys
    → first_bits n xs ≡ first_bits n ys → worth xs / 2 ^ m ≡ worth ys / 2 ^ m
agree_to n m xs ys p q e f same =
    let level : worth xs / 2 ^ m * 2 ^ m ≡ worth ys / 2 ^ m * 2 ^ m = sym (worth-first_bits n m xs p e) ∙ ap worth same ∙ worth-first_bits n m ys q f in
    sym (shl-shr (worth xs / 2 ^ m) m) ∙ ap (λ (w : ℕ). w / 2 ^ m) level ∙ shl-shr (worth ys / 2 ^ m) m

pub agree_from : (n m : ℕ) (xs ys : List ℕ) → AreBytes xs → AreBytes ys → n + m ≡ 8 * length xs → n + m ≡ 8 * length ys
    → worth xs / 2 ^ m ≡ worth ys / 2 ^ m → first_bits n xs ≡ first_bits n ys
agree_from n m xs ys p q e f same =
    let len : length (first_bits n xs) ≡ length (first_bits n ys) = length-first_bits n xs ∙ omega arith ∙ sym (length-first_bits n ys) in
    let level : worth (first_bits n xs) ≡ worth (first_bits n ys) = worth-first_bits n m xs p e ∙ ap (λ (w : ℕ). w * 2 ^ m) same ∙ sym (worth-first_bits n m ys q f) in
    worth_one (first_bits n xs) (first_bits n ys) len (first_bits_below n xs p) (first_bits_below n ys q) level
