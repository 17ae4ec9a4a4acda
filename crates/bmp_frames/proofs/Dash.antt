-- A text cut at its first `-`, in one way.
use Rattle.std.proofs.Common.{◌≡◌, ◌≢◌, ℕ, ◌+◌, ◌<◌, ◌≤◌, ◌==◌, Bool, true, false, cond, List, [], ◌∷◌, ◌++◌, Some, None, length, get_or, slice_index, take, drop, refl, sym, ap, ◌∙◌, arith, nat_lt, length-append, length-take, take-append-drop, eq-eqb, suc, zero, ◌-◌, ◌/◌, ◌%◌, lit<}
use Rattle.std.specs.Prelude.{position}
use Rattle.std.specs.List.{position_or_len}
use Rattle.std.proofs.lemmas.List.{drop_more, take_rest, get_or-take}
use Rattle.std.proofs.lemmas.List.Quantifiers.{position-Some}
use Rattle.std.proofs.lemmas.Bool.{eqb-true, ltb-false}
use Rattle.std.proofs.lemmas.List.Sums.{fails_before_first}
use Rattle.byteorder.specs.Endian.{big_bytes}
use Rattle.ip_prefix.proofs.Decimals.{all_digits}
use Rattle.bmp_specs.specs.NumberText.{IsNumberUpTo}
use Rattle.bmp_specs.specs.PeerText.{dash, most_kind, hex_digits, hex_text, distinguisher_text, IsKeyText}
use Rattle.bmp_specs.specs.Values.{KeyValue}
use Rattle.bmp_frames.specs.KeyText.{CutsAtDash}

abbrev is_dash : ℕ → Bool
is_dash b = b == dash

-- what stands at the place after the front
at_front : (front rest : List ℕ) → get_or (front ++ (dash ∷ rest)) (length front) 0 ≡ dash
at_front [] rest = refl
at_front (x ∷ front) rest = at_front front rest

-- a byte that the test passes, or doesn't
passed : (b : ℕ) → is_dash b ≡ true → b ≡ dash
passed b e = eqb-true b dash e

failed : (b : ℕ) → is_dash b ≡ false → b ≢ dash
failed b e same = absurd_bool (sym (eq-eqb b dash same) ∙ e)
  where
    absurd_bool : true ≡ false → ⊥
    absurd_bool e = absurd cc

pub no_dash : (text : List ℕ) → position (λ b. b == dash) text ≡ None → (front rest : List ℕ) → text ≡ front ++ (dash ∷ rest) → ⊥
no_dash text none front rest spelled =
    let at : get_or text (length front) 0 ≡ dash = ap (λ (l : List ℕ). get_or l (length front) 0) spelled ∙ at_front front rest in
    let within : length front < length text = omega (arith, ap length spelled, length-append front (dash ∷ rest)) in
    go (nat_lt (position_or_len is_dash text) (length text)) refl none at within
  where
    go : (t : Bool) → nat_lt (position_or_len is_dash text) (length text) ≡ t → cond t (Some (position_or_len is_dash text)) None ≡ None → get_or text (length front) 0 ≡ dash → length front < length text → ⊥
    go true e none at within = absurd cc
    go false e none at within =
        let past : length text ≤ position_or_len is_dash text = ltb-false (position_or_len is_dash text) (length text) e in
        failed (get_or text (length front) 0) (fails_before_first is_dash text (length front) 0 (omega (arith, past, within))) at

-- the text is cut at the place of the first `-`
pub cut_here : (text : List ℕ) (i : ℕ) → position (λ b. b == dash) text ≡ Some i → CutsAtDash text (take i text) (take (length text - (i + 1)) (drop (i + 1) text))
cut_here text i e =
    let at = position-Some is_dash text i 0 e in
    let split : drop i text ≡ get_or text i 0 ∷ drop (i + 1) text = drop_more text i 0 at.0 in
    record {
      spelled = sym (take-append-drop i text) ∙ ap (λ (l : List ℕ). take i text ++ l) (split ∙ ap (λ (b : ℕ). b ∷ drop (i + 1) text) (passed (get_or text i 0) at.1)) ∙ rw (take_rest text (i + 1)) refl;
      first = λ k h.
          let below : k < i = omega (arith, h, length-take i text) in
          λ same. failed (get_or text k 0) (at.2 k below) (sym (get_or-take i text k 0 below) ∙ same);
    }

-- a front without `-` is what stands before the first one
pub one_cut : (text front rest a b : List ℕ) → CutsAtDash text front rest → text ≡ a ++ (dash ∷ b) → ((k : ℕ) → k < length a → slice_index a k ≢ dash) → (a ≡ front) × (b ≡ rest)
one_cut text front rest a b cut spelled free = go front a (sym cut.spelled ∙ spelled) cut.first free
  where
    Free : List ℕ → Type 0
    Free front = (k : ℕ) → k < length front → slice_index front k ≢ dash

    after : (x : ℕ) (front : List ℕ) → Free (x ∷ front) → Free front
    after x front p k h = p (suc k) (omega (arith, h))

    go : (front a : List ℕ) → front ++ (dash ∷ rest) ≡ a ++ (dash ∷ b) → Free front → Free a → (a ≡ front) × (b ≡ rest)
    go [] [] e p q = (refl, sym cc)
    go [] (x ∷ a) e p q = absurd (q 0 (omega arith) (sym cc))
    go (x ∷ front) [] e p q = absurd (p 0 (omega arith) cc)
    go (x ∷ front) (y ∷ a) e p q =
        let head : x ≡ y = cc in
        let tails : front ++ (dash ∷ rest) ≡ a ++ (dash ∷ b) = cc in
        let others = go front a tails (after x front p) (after y a q) in
        (cc (head, others.0), others.1)

-- no byte of these is `-`
abbrev all_free : List ℕ → Bool
all_free [] = true
all_free (x ∷ xs) = cond (is_dash x) false (all_free xs)

free_of : (xs : List ℕ) → all_free xs ≡ true → (m : ℕ) → slice_index xs m ≢ dash
free_of [] e m same = omega (arith, same)
free_of (x ∷ xs) e m same = go m (is_dash x) refl e (λ rest k. free_of xs rest k) same
  where
    go : (m : ℕ) (t : Bool) → is_dash x ≡ t → cond t false (all_free xs) ≡ true → (all_free xs ≡ true → (k : ℕ) → slice_index xs k ≢ dash) → slice_index (x ∷ xs) m ≡ dash → ⊥
    go m true told e again same = absurd cc
    go zero false told e again same = failed x told same
    go (suc m) false told e again same = again e m same

hex_free : (bytes : List ℕ) → (k : ℕ) → k < length (hex_text bytes) → slice_index (hex_text bytes) k ≢ dash
unfolding hex_text
hex_free [] k h = absurd (omega (arith, h))
hex_free (b ∷ bytes) zero h = free_of hex_digits refl (b / 16)
hex_free (b ∷ bytes) (suc zero) h = free_of hex_digits refl (b % 16)
hex_free (b ∷ bytes) (suc (suc k)) h = hex_free bytes k (omega (arith, h))

distinguisher_free : (d : ℕ) → (k : ℕ) → k < length (distinguisher_text d) → slice_index (distinguisher_text d) k ≢ dash
unfolding distinguisher_text
distinguisher_free d k h = hex_free (big_bytes 8 d) k h

number_free : (text : List ℕ) (n : ℕ) → IsNumberUpTo most_kind text n → (k : ℕ) → k < length text → slice_index text k ≢ dash
number_free text n is k h same = let at = all_digits most_kind text n (lit< tt) is k h in omega (arith, at.0, same)

-- where a text is cut at its first `-`, the front is the peer type
pub first_part : (text front rest : List ℕ) (key : KeyValue) → CutsAtDash text front rest → (is : IsKeyText text key) → (is.kind ≡ front) × (is.distinguisher ++ (dash ∷ is.address) ≡ rest)
first_part text front rest key cut is = one_cut text front rest is.kind (is.distinguisher ++ (dash ∷ is.address)) cut is.spelled (number_free is.kind key.kind is.is_kind)

-- and the rest is cut into the distinguisher and the address
pub second_part : (text front rest digits address : List ℕ) (key : KeyValue) → CutsAtDash text front rest → CutsAtDash rest digits address → (is : IsKeyText text key) → (is.distinguisher ≡ digits) × (is.address ≡ address)
second_part text front rest digits address key cut next is =
    let free : (k : ℕ) → k < length is.distinguisher → slice_index is.distinguisher k ≢ dash = rw is.is_distinguisher.spelled (distinguisher_free key.distinguisher) in
    one_cut rest digits address is.distinguisher is.address next (sym (first_part text front rest key cut is).1) free
