-- How many bytes the prefix at the front takes by its length octet, and what stands in them.
use Rattle.std.proofs.Common.{◌≡◌, ◌+◌, ◌-◌, ◌<◌, ◌≤◌, ℕ, zero, suc, List, [], ◌∷◌, ◌++◌, length, take, drop, get_or, replicate, refl, sym, ap, subst, ◌∙◌, add-one, arith, length-take, length-drop}
use Rattle.std.proofs.lemmas.List.{length-take-le, drop-replicate}
use Rattle.bmp_specs.specs.declared.wire.Family.{Family}
use Rattle.bmp_specs.specs.declared.wire.Family.TheVariants.{V4, V6}
use Rattle.bmp_specs.specs.Address.{FitsFamily}
use Rattle.bmp_specs.specs.Prefix.{IsPrefix, Sends, StandsAtFront, bytes_for, first_bits, padded, prefix_of, width_of}
use Rattle.bmp_specs.specs.Values.{PrefixValue}
use Rattle.ip_prefix.proofs.Kept.{FitsFamily-sent}

-- so many bits, and as many bytes as hold them, are a prefix
pub prefix_stands : (family : Family) (input : List ℕ) (bits size : ℕ) → 0 < length input → bits ≡ get_or input 0 0 → size ≡ bytes_for bits + 1 → bits ≤ width_of family → size ≤ length input
    → (p : PrefixValue) × StandsAtFront family input p size
prefix_stands family [] bits size some is long within room = absurd (omega (arith, some))
prefix_stands family (b ∷ sent) bits size some is long within room =
    let same : bytes_for b + 1 ≡ size = sym (long ∙ ap (λ (n : ℕ). bytes_for n + 1) is) in
    subst (λ (n : ℕ). (p : PrefixValue) × StandsAtFront family (b ∷ sent) p n) same it
  where
    wide : b ≤ width_of family
    wide = omega (arith, is, within)

    enough : bytes_for b ≤ length sent
    enough = omega (arith, is, long, room)

    it : (p : PrefixValue) × StandsAtFront family (b ∷ sent) p (bytes_for b + 1)
    it = (prefix_of family b (take (bytes_for b) sent), record { within = omega (arith, enough); is = rw add-one (record { within = wide; whole = length-take-le (bytes_for b) sent enough; value = refl }) })

-- where the bits are too many or the bytes too few, no prefix stands there
pub prefix_none : (family : Family) (input : List ℕ) (bits : ℕ) → 0 < length input → bits ≡ get_or input 0 0 → (bits ≤ width_of family → bytes_for bits + 1 ≤ length input → ⊥)
    → (size : ℕ) (p : PrefixValue) → StandsAtFront family input p size → ⊥
prefix_none family input bits some is not size p stands = at size input stands.within stands.is some is not
  where
    at : (size : ℕ) (input : List ℕ) → size ≤ length input → IsPrefix family (take size input) p → 0 < length input → bits ≡ get_or input 0 0 → (bits ≤ width_of family → bytes_for bits + 1 ≤ length input → ⊥) → ⊥
    at zero input le is' some same not = is'
    at (suc n) [] le is' some same not = is'
    at (suc n) (b ∷ sent) le is' some same not =
        not (omega (arith, same, is'.within)) (let whole : length (take n sent) ≡ bytes_for bits = is'.whole ∙ ap bytes_for (sym same) in omega (arith, whole, length-take n sent))

pub empty_none : (family : Family) (input : List ℕ) → length input ≡ 0 → (size : ℕ) (p : PrefixValue) → StandsAtFront family input p size → ⊥
empty_none family input none size p stands = at size input stands.within stands.is none
  where
    at : (size : ℕ) (input : List ℕ) → size ≤ length input → IsPrefix family (take size input) p → length input ≡ 0 → ⊥
    at zero input le is none = is
    at (suc n) [] le is none = is
    at (suc n) (b ∷ sent) le is none = omega (arith, none)

-- the first octet is the number of bits, and the others are what is sent
pub sent_here : (family : Family) (input : List ℕ) (size : ℕ) (p : PrefixValue) → StandsAtFront family input p size → Sends family (get_or input 0 0) (take (size - 1) (drop 1 input)) p
sent_here family input size p stands = at size input stands.is
  where
    at : (size : ℕ) (input : List ℕ) → IsPrefix family (take size input) p → Sends family (get_or input 0 0) (take (size - 1) (drop 1 input)) p
    at zero input is = absurd is
    at (suc n) [] is = absurd is
    at (suc n) (b ∷ sent) is = let less : n ≡ suc n - 1 = omega arith in subst (λ (k : ℕ). Sends family b (take k sent) p) less is

width_most : (family : Family) → width_of family ≤ 128
width_most V4 = omega arith
width_most V6 = omega arith

-- so many octets are sent, and at most 16
pub sent_count : (family : Family) (input : List ℕ) (size : ℕ) (p : PrefixValue) → StandsAtFront family input p size → (length (take (size - 1) (drop 1 input)) ≡ size - 1) × (size - 1 ≤ 16)
sent_count family input size p stands =
    let sends = sent_here family input size p stands in
    let whole : length (take (size - 1) (drop 1 input)) ≡ bytes_for (get_or input 0 0) = sends.whole in
    let len : length (take (size - 1) (drop 1 input)) ≡ size - 1 = length-take-le (size - 1) (drop 1 input) (omega (arith, stands.within, length-drop 1 input)) in
    (len, omega (arith, len, whole, sends.within, width_most family))

-- the octets that are sent, and zeros
pub octets_here : (family : Family) (input : List ℕ) (size : ℕ) (p : PrefixValue) → StandsAtFront family input p size → take (size - 1) (drop 1 input) ++ drop (size - 1) (replicate 16 0) ≡ padded (take (size - 1) (drop 1 input))
octets_here family input size p stands =
    let sent = take (size - 1) (drop 1 input) in
    ap (λ (l : List ℕ). sent ++ l) (drop-replicate (size - 1) 16 0 ∙ ap (λ (n : ℕ). replicate (16 - n) 0) (sym (sent_count family input size p stands).0))

pub fits_here : (family : Family) (input octets : List ℕ) (size : ℕ) (p : PrefixValue) → StandsAtFront family input p size → octets ≡ take (size - 1) (drop 1 input) ++ drop (size - 1) (replicate 16 0) → FitsFamily family octets
fits_here family input octets size p stands is =
    let sends = sent_here family input size p stands in
    subst (λ (l : List ℕ). FitsFamily family l) (sym (is ∙ octets_here family input size p stands)) (FitsFamily-sent family (get_or input 0 0) (take (size - 1) (drop 1 input)) sends.within sends.whole)

-- the prefix of these octets is the one that stands there
pub read_here : (family : Family) (input octets : List ℕ) (size : ℕ) (p q : PrefixValue) → StandsAtFront family input p size → octets ≡ take (size - 1) (drop 1 input) ++ drop (size - 1) (replicate 16 0)
    → q ≡ record { address = record { family = family; octets = first_bits (get_or input 0 0) octets }; bits = get_or input 0 0 } → StandsAtFront family input q size
read_here family input octets size p q stands is e =
    let bits = get_or input 0 0 in
    let whole : List ℕ → PrefixValue = λ l. record { address = record { family = family; octets = first_bits bits l }; bits = bits } in
    subst (λ (v : PrefixValue). StandsAtFront family input v size) ((sent_here family input size p stands).value ∙ ap whole (sym (is ∙ octets_here family input size p stands)) ∙ sym e) stands
