-- Prefixes that are written are read as they were.
use Rattle.std.proofs.Common.{◌≡◌, ℕ, zero, suc, ◌+◌, ◌-◌, ◌<◌, ◌≤◌, List, [], ◌∷◌, ◌++◌, length, take, drop, replicate, get_or, Option, Some, None, refl, sym, ap, subst, ◌∙◌, append_assoc, arith, length-append, length-drop, length-take}
use Rattle.std.proofs.lemmas.List.{drop_at}
use Rattle.std.proofs.lemmas.List.Sums.{sum_by-cons}
use Rattle.byteorder.specs.Endian.{big_number}
use Rattle.bmp_specs.specs.Address.{IsAddressPrefix}
use Rattle.bmp_specs.specs.declared.wire.Family.{Family}
use Rattle.bmp_specs.specs.Number.{IsNumber}
use Rattle.bmp_specs.specs.Prefix.{IsPrefix, bytes_for, first_bits, high_bits, padded}
use Rattle.bmp_specs.specs.Values.{NlriValue, PrefixValue}
use Rattle.bmp_specs.proofs.FirstBits.{AreBytes, no_first}
use Rattle.bmp_specs.proofs.Widths.{width_within}
use Rattle.bmp_writer.specs.Written.{Appends}
use Rattle.bmp_writer.specs.WrittenNlri.{AreOwnNlri, IsId, IsOwnNlri, IsOwnPrefix, id_size, nlri_size, nlris_size}
use Rattle.bmp_writer.proofs.Still.{two_pieces}

zeros : (r k : ℕ) → get_or (replicate r 0) k 0 < 256
zeros zero k = omega arith
zeros (suc r) zero = omega arith
zeros (suc r) (suc k) = zeros r k

length_zeros : (r : ℕ) → length {A = ℕ} (replicate r 0) ≡ r
length_zeros zero = refl
length_zeros (suc r) = ap suc (length_zeros r)

-- no bit past the bytes that hold the first ones counts
front_bits : (n : ℕ) (xs : List ℕ) (k r : ℕ) → k ≡ bytes_for n → r + k ≡ length xs → AreBytes xs → first_bits n (take k xs ++ replicate r 0) ≡ first_bits n xs
front_bits n [] zero zero e f b = refl
front_bits n [] zero (suc r) e f b = absurd (omega (arith, f))
front_bits n [] (suc k) r e f b = absurd (omega (arith, f))
front_bits n (x ∷ xs) zero r e f b =
    let none : n ≡ 0 = omega (arith, e) in
    subst (λ (m : ℕ). first_bits m (replicate r 0) ≡ first_bits m (x ∷ xs)) (sym none) (no_first (replicate r 0) (x ∷ xs) (length_zeros r ∙ omega (arith, f)) (zeros r) b)
front_bits n (x ∷ xs) (suc k) r e f b = ap (λ (l : List ℕ). high_bits n x ∷ l) (front_bits (n - 8) xs k r (omega (arith, e)) (omega (arith, f)) (λ j. b (suc j)))

pub bits_within : (p : PrefixValue) → IsAddressPrefix p → p.bits ≤ 128
bits_within p valid = omega (arith, valid.within, width_within p.address.family)

pub prefix_here : (p : PrefixValue) → IsAddressPrefix p → IsOwnPrefix p (p.bits ∷ take (bytes_for p.bits) p.address.octets)
prefix_here p valid =
    let within = bits_within p valid in
    let k = bytes_for p.bits in
    let short : k ≤ length p.address.octets = omega (arith, within, valid.address.len) in
    let len : length (take k p.address.octets) ≡ k = omega (arith, length-take k p.address.octets, short) in
    let room : (16 - length (take k p.address.octets)) + k ≡ length p.address.octets = omega (arith, len, short, valid.address.len) in
    let same : first_bits p.bits (padded (take k p.address.octets)) ≡ p.address.octets = front_bits p.bits p.address.octets k (16 - length (take k p.address.octets)) refl room valid.address.bytes ∙ valid.clear in
    record { is = record { within = valid.within; whole = len; value = ap (λ (o : List ℕ). record { address = record { family = p.address.family; octets = o }; bits = p.bits }) (sym same) }; exact = refl }

-- what is put in two pieces
pub prefix_put : (p : PrefixValue) (bits : ℕ) (octets old mid new : List ℕ) → IsAddressPrefix p → bits ≡ p.bits → octets ≡ take (bytes_for p.bits) p.address.octets
    → mid ≡ old ++ bits ∷ [] → new ≡ mid ++ octets → (bytes : List ℕ) × (new ≡ old ++ bytes) × IsOwnPrefix p bytes
prefix_put p bits octets old mid new valid b o e f =
    let joined : new ≡ old ++ bits ∷ octets = f ∙ ap (λ (l : List ℕ). l ++ octets) e ∙ append_assoc old (bits ∷ []) octets in
    let same : bits ∷ octets ≡ p.bits ∷ take (bytes_for p.bits) p.address.octets = ap (λ (n : ℕ). n ∷ octets) b ∙ ap (λ (l : List ℕ). p.bits ∷ l) o in
    (bits ∷ octets, joined, subst (λ (l : List ℕ). IsOwnPrefix p l) (sym same) (prefix_here p valid))

first_number : (front bytes : List ℕ) (id : ℕ) → IsNumber 4 front id → big_number 4 (front ++ bytes) ≡ id
first_number (a ∷ b ∷ c ∷ d ∷ []) bytes id n = n.value_is
first_number (a ∷ b ∷ c ∷ d ∷ x ∷ l) bytes id n = absurd (omega (arith, n.len))
first_number (a ∷ b ∷ c ∷ []) bytes id n = absurd (omega (arith, n.len))
first_number (a ∷ b ∷ []) bytes id n = absurd (omega (arith, n.len))
first_number (a ∷ []) bytes id n = absurd (omega (arith, n.len))
first_number [] bytes id n = absurd (omega (arith, n.len))

-- the prefix stands behind its identifier
nlri_here : (p : PrefixValue) (id : Option ℕ) (front bytes : List ℕ) → IsId id front → IsOwnPrefix p bytes → IsOwnNlri (front ++ bytes) (record { prefix = p; id = id })
nlri_here p None front bytes none own =
    subst (λ (l : List ℕ). IsOwnNlri (l ++ bytes) (record { prefix = p; id = None })) (sym none) (record { is = record { prefix_is = own.is; id_is = refl }; exact = own.exact })
nlri_here p (Some id) front bytes number own =
    let behind : drop 4 (front ++ bytes) ≡ bytes = drop_at front bytes 4 number.len in
    record {
      is = record {
        header = omega (arith, length-append front bytes, number.len);
        id_is = ap (λ (k : ℕ). Some k) (sym (first_number front bytes id number));
        prefix_is = subst (λ (l : List ℕ). IsPrefix p.address.family l p) (sym behind) own.is;
      };
      exact = behind ∙ own.exact;
    }

pub nlri_put : (i n : NlriValue) → i ≡ n → (old mid new : List ℕ) → Appends (IsId i.id) old mid → Appends (IsOwnPrefix i.prefix) mid new → Appends (λ bytes. IsOwnNlri bytes n) old new
nlri_put i n same old mid new (front, e, id) (bytes, f, own) =
    (front ++ bytes, two_pieces old mid new front bytes e f, subst (λ (m : NlriValue). IsOwnNlri (front ++ bytes) m) same (nlri_here i.prefix i.id front bytes id own))

prefix_length : (family : Family) (bytes : List ℕ) (p : PrefixValue) → IsPrefix family bytes p → length bytes ≡ 1 + bytes_for p.bits
prefix_length family [] p is = absurd is
prefix_length family (bits ∷ sent) p is =
    let same : bytes_for p.bits ≡ bytes_for bits = ap (λ (q : PrefixValue). bytes_for q.bits) is.value in
    omega (arith, is.whole, same)

with_id_length : (p : PrefixValue) (id : Option ℕ) (bytes : List ℕ) → IsOwnNlri bytes (record { prefix = p; id = id }) → length bytes ≡ id_size id + (1 + bytes_for p.bits)
with_id_length p None bytes is = omega (arith, prefix_length p.address.family bytes p is.is.prefix_is)
with_id_length p (Some id) bytes is = omega (arith, prefix_length p.address.family (drop 4 bytes) p is.is.prefix_is, length-drop 4 bytes, is.is.header)

pub nlris_length : (ns : List NlriValue) (bytes : List ℕ) → AreOwnNlri ns bytes → length bytes ≡ nlris_size ns
nlris_length [] bytes p = ap (λ (l : List ℕ). length l) p
nlris_length (n ∷ ns) bytes (front, rest, split, is, p) =
    omega (arith, ap (λ (l : List ℕ). length l) split.joined, length-append front rest, with_id_length n.prefix n.id front is, nlris_length ns rest p, sum_by-cons nlri_size n ns)
