-- An IPv4 prefix at the front, read from the four bytes after its length octet: those past its own do no harm.
use Rattle.std.proofs.Common.{◌≡◌, ℕ, zero, suc, ◌+◌, ◌-◌, ◌<◌, ◌≤◌, List, [], ◌∷◌, ◌++◌, length, take, drop, get_or, replicate, refl, sym, ap, subst, ◌∙◌, arith, length-append, take_all, length-take}
use Rattle.std.proofs.lemmas.List.{length-replicate, take-take, take-append-le}
use Rattle.bmp_specs.proofs.FirstBits.{no_first}
use Rattle.bmp_specs.specs.declared.wire.Family.{Family}
use Rattle.bmp_specs.specs.declared.wire.Family.TheVariants.{V4}
use Rattle.bmp_specs.specs.Address.{FitsFamily, IsAddress, IsAddressPrefix, prefix_at}
use Rattle.bmp_specs.specs.Prefix.{StandsAtFront, bytes_for, first_bits, high_bits, padded, prefix_of}
use Rattle.bmp_specs.specs.Values.{AddressValue, PrefixValue}
use Rattle.ip_prefix.proofs.FirstOfFour.{padded_first}
use Rattle.ip_prefix.proofs.Kept.{FitsFamily-sent, IsAddressPrefix-prefix_at}
use Rattle.ip_prefix.proofs.Sizes.{sent_here, sent_count}

abbrev AreBytes : List ℕ → Type 0
AreBytes xs = (k : ℕ) → get_or xs k 0 < 256

-- the first bits are those of the bytes that hold them
first_same : (n : ℕ) (xs ys : List ℕ) → length xs ≡ length ys → AreBytes xs → AreBytes ys → take (bytes_for n) xs ≡ take (bytes_for n) ys → first_bits n xs ≡ first_bits n ys
first_same zero xs ys len p q same = no_first xs ys len p q
first_same (suc n) [] [] len p q same = refl
first_same (suc n) [] (y ∷ ys) len p q same = absurd (omega arith)
first_same (suc n) (x ∷ xs) [] len p q same = absurd (omega arith)
first_same (suc n) (x ∷ xs) (y ∷ ys) len p q same =
    let more : bytes_for (suc n) ≡ suc (bytes_for (suc n - 8)) = omega arith in
    let both : x ∷ take (bytes_for (suc n - 8)) xs ≡ y ∷ take (bytes_for (suc n - 8)) ys = ap (λ (k : ℕ). take k (x ∷ xs)) (sym more) ∙ same ∙ ap (λ (k : ℕ). take k (y ∷ ys)) more in
    let head : x ≡ y = cc in
    let tail : take (bytes_for (suc n - 8)) xs ≡ take (bytes_for (suc n - 8)) ys = cc in
    ap (λ (b : ℕ). high_bits (suc n) b ∷ first_bits (suc n - 8) xs) head ∙ ap (λ (l : List ℕ). high_bits (suc n) y ∷ l) (first_same (suc n - 8) xs ys (omega arith) (λ k. p (suc k)) (λ k. q (suc k)) tail)

bytes_join : (xs ys : List ℕ) → AreBytes xs → AreBytes ys → AreBytes (xs ++ ys)
bytes_join [] ys p q k = q k
bytes_join (x ∷ xs) ys p q zero = p 0
bytes_join (x ∷ xs) ys p q (suc k) = bytes_join xs ys (λ j. p (suc j)) q k

bytes_zeros : (n : ℕ) → AreBytes (replicate n 0)
bytes_zeros zero k = omega arith
bytes_zeros (suc n) zero = omega arith
bytes_zeros (suc n) (suc k) = bytes_zeros n k

bytes_front : (n : ℕ) (xs : List ℕ) → AreBytes xs → AreBytes (take n xs)
bytes_front zero xs p k = omega arith
bytes_front (suc n) [] p k = omega arith
bytes_front (suc n) (x ∷ xs) p zero = p 0
bytes_front (suc n) (x ∷ xs) p (suc k) = bytes_front n xs (λ j. p (suc j)) k

bytes_after : (xs : List ℕ) → AreBytes xs → AreBytes (drop 1 xs)
bytes_after [] p k = omega arith
bytes_after (x ∷ xs) p k = p (suc k)

bytes_padded : (xs : List ℕ) → AreBytes xs → AreBytes (padded xs)
bytes_padded xs p = bytes_join xs (replicate (16 - length xs) 0) p (bytes_zeros (16 - length xs))

length-padded : (xs : List ℕ) → length xs ≤ 16 → length (padded xs) ≡ 16
length-padded xs few = length-append xs (replicate (16 - length xs) 0) ∙ ap (λ (k : ℕ). length xs + k) (length-replicate {A = ℕ} (16 - length xs) 0) ∙ omega arith

-- the prefix of the four bytes after the length octet is the one that stands there
pub four_here : (input four : List ℕ) (size : ℕ) (p q : PrefixValue) → StandsAtFront V4 input p size → AreBytes input → four ≡ take 4 (drop 1 input ++ replicate 4 0) → q ≡ prefix_of V4 (get_or input 0 0) four
    → StandsAtFront V4 input q size
four_here input four size p q stands bytes is e =
    let bits = get_or input 0 0 in
    let rest = drop 1 input in
    let sent = take (size - 1) rest in
    let behind = rest ++ replicate 4 0 in
    let here = take 4 behind in
    let sends = sent_here V4 input size p stands in
    let count : length sent ≡ size - 1 = (sent_count V4 input size p stands).0 in
    let whole : length sent ≡ bytes_for bits = sends.whole in
    let few : bytes_for bits ≤ 4 = omega (arith, sends.within) in
    let some : length behind ≡ length rest + 4 = length-append rest (replicate 4 0) ∙ ap (λ (k : ℕ). length rest + k) (length-replicate {A = ℕ} 4 0) in
    let long : length here ≡ 4 = omega (arith, length-take 4 behind, some) in
    let enough : bytes_for bits ≤ length rest = omega (arith, count, whole, length-take (size - 1) rest) in
    let left : take (bytes_for bits) (padded sent) ≡ sent =
    take-append-le (bytes_for bits) sent (replicate (16 - length sent) 0) (omega arith) ∙ take_all (bytes_for bits) sent (omega arith) in
    let right : take (bytes_for bits) (padded here) ≡ sent =
    take-append-le (bytes_for bits) here (replicate (16 - length here) 0) (omega arith) ∙ take-take (bytes_for bits) 4 behind few ∙ take-append-le (bytes_for bits) rest (replicate 4 0) enough
    ∙ ap (λ (k : ℕ). take k rest) (sym whole ∙ count) in
    let pass : AreBytes rest = bytes_after input bytes in
    let len : length (padded sent) ≡ length (padded here) = length-padded sent (omega arith) ∙ sym (length-padded here (omega arith)) in
    let same : first_bits bits (padded sent) ≡ first_bits bits (padded here) =
    first_same bits (padded sent) (padded here) len (bytes_padded sent (bytes_front (size - 1) rest pass)) (bytes_padded here (bytes_front 4 behind (bytes_join rest (replicate 4 0) pass (bytes_zeros 4)))) (left ∙ sym right) in
    let of : List ℕ → PrefixValue = λ l. record { address = record { family = V4; octets = l }; bits = bits } in
    let it : p ≡ q = sends.value ∙ ap of same ∙ ap (λ (l : List ℕ). prefix_of V4 bits l) (sym is) ∙ sym e in
    subst (λ (v : PrefixValue). StandsAtFront V4 input v size) it stands

-- an address of four bytes, of which all but the first bits were cleared
pub four_is : (bits : ℕ) (bytes first : List ℕ) (a : AddressValue) → first ≡ first_bits bits bytes → a.family ≡ V4 → a.octets ≡ padded first → record { address = a; bits = bits } ≡ prefix_of V4 bits bytes
four_is bits bytes first a cleared family octets =
    let same : a.octets ≡ first_bits bits (padded bytes) = octets ∙ ap padded cleared ∙ padded_first bits bytes in
    λ i. record { address = record { family = family i; octets = same i }; bits = bits }

pub four_valid : (bits : ℕ) (bytes : List ℕ) → length bytes ≡ 4 → AreBytes bytes → bits ≤ 32 → IsAddressPrefix (prefix_of V4 bits bytes)
four_valid bits bytes four are within =
    IsAddressPrefix-prefix_at (record { family = V4; octets = padded bytes }) bits
    (record { len = length-padded bytes (omega arith); bytes = bytes_padded bytes are; used = FitsFamily-sent V4 32 bytes (omega arith) four }) within

four_taken : (xs : List ℕ) → 4 ≤ length xs → get_or xs 0 0 ∷ get_or xs 1 0 ∷ get_or xs 2 0 ∷ get_or xs 3 0 ∷ [] ≡ take 4 xs
four_taken [] some = absurd (omega arith)
four_taken (a ∷ []) some = absurd (omega arith)
four_taken (a ∷ b ∷ []) some = absurd (omega arith)
four_taken (a ∷ b ∷ c ∷ []) some = absurd (omega arith)
four_taken (a ∷ b ∷ c ∷ d ∷ xs) some = refl

-- an IPv4 address, by its four bytes
pub four_at : (a : AddressValue) (bits : ℕ) (os : List ℕ) (q : PrefixValue) → a.family ≡ V4 → IsAddress a → os ≡ a.octets → q ≡ prefix_of V4 bits (get_or os 0 0 ∷ get_or os 1 0 ∷ get_or os 2 0 ∷ get_or os 3 0 ∷ [])
    → q ≡ prefix_at a bits
four_at a bits os q is valid whole e =
    let used : FitsFamily V4 a.octets = subst (λ (f : Family). FitsFamily f a.octets) is valid.used in
    let same : padded (get_or os 0 0 ∷ get_or os 1 0 ∷ get_or os 2 0 ∷ get_or os 3 0 ∷ []) ≡ a.octets = ap padded (four_taken os (omega (arith, valid.len, ap length whole)) ∙ ap (λ (l : List ℕ). take 4 l) whole) ∙ sym used in
    e ∙ (λ i. record { address = record { family = sym is i; octets = first_bits bits (same i) }; bits = bits })
