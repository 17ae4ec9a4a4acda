-- Each address and each prefix is what its own text is read as.
use Rattle.std.proofs.Common.{◌≡◌, ℕ, zero, suc, ◌+◌, ◌-◌, ◌*◌, ◌/◌, ◌%◌, ◌<◌, ◌≤◌, ◌^◌, Bool, true, false, ◌&&◌, cond, List, [], ◌∷◌, ◌++◌, Option, None, Some, length, take, drop, get_or, map, replicate, refl, sym, ap, subst, ◌∙◌, arith, length-take, length-drop, take-append-drop, eqb-true, leb-true, inl, inr}
use Rattle.std.proofs.lemmas.List.{drop-take, take-take}
use Rattle.std.proofs.lemmas.List.Elements.{All-from_get_or, All-take}
use Rattle.std.proofs.lemmas.Fmt.{digits_is_IsNumeral}
use Rattle.std.specs.List.{find, list_all, AllZip}
use Rattle.std.specs.Net.Addr.{segments_of, octets_of}
use Rattle.std.specs.Prelude.{◌==◌, nat_le}
use Rattle.bmp_specs.specs.declared.wire.Family.{Family}
use Rattle.bmp_specs.specs.declared.wire.Family.TheVariants.{V4, V6}
use Rattle.bmp_specs.specs.Address.{FitsFamily, IsAddress, IsAddressPrefix}
use Rattle.bmp_specs.specs.AddressText.{joined_groups, group_text, groups_text, shortened_text, shortened_run, runs, is_zero_run, address_text, text_in, IsGroupText, AreGroups, IsElided, IsV6Text, IsTextIn, IsAddressText}
use Rattle.bmp_specs.specs.PrefixText.{prefix_text, IsPrefixText}
use Rattle.bmp_specs.specs.Values.{AddressValue, PrefixValue}
use Rattle.bmp_specs.specs.NumberText.{number_text}
use Rattle.bmp_specs.proofs.Widths.{width_within}
use Rattle.ip_prefix.proofs.Digits.{group_within}
use Rattle.ip_prefix.proofs.Runs.{and-true}

abbrev AreBytes : List ℕ → Type 0
AreBytes xs = (k : ℕ) → get_or xs k 0 < 256

abbrev AreSegments : List ℕ → Type 0
AreSegments xs = (k : ℕ) → get_or xs k 0 < 2 ^ 16

length-segments : (n : ℕ) (os : List ℕ) → length os ≡ 2 * n → length (segments_of os) ≡ n
length-segments n [] e = omega (arith, e)
length-segments n (a ∷ []) e = absurd (omega (arith, e))
length-segments zero (a ∷ b ∷ os) e = absurd (omega (arith, e))
length-segments (suc n) (a ∷ b ∷ os) e = ap suc (length-segments n os (omega (arith, e)))

segments_below : (os : List ℕ) → AreBytes os → AreSegments (segments_of os)
segments_below [] bytes k = omega arith
segments_below (a ∷ []) bytes k = omega arith
segments_below (a ∷ b ∷ os) bytes zero = omega (arith, bytes 0, bytes 1)
segments_below (a ∷ b ∷ os) bytes (suc k) = segments_below os (λ j. bytes (suc (suc j))) k

octets_back : (n : ℕ) (os : List ℕ) → length os ≡ 2 * n → AreBytes os → octets_of (segments_of os) ≡ os
octets_back n [] e bytes = refl
octets_back n (a ∷ []) e bytes = absurd (omega (arith, e))
octets_back zero (a ∷ b ∷ os) e bytes = absurd (omega (arith, e))
octets_back (suc n) (a ∷ b ∷ os) e bytes =
    let high : (a * 256 + b) / 256 ≡ a = omega (arith, bytes 1) in
    let low : (a * 256 + b) % 256 ≡ b = omega (arith, bytes 1) in
    ap (λ (h : ℕ). h ∷ ((a * 256 + b) % 256) ∷ octets_of (segments_of os)) high ∙ ap (λ (l : ℕ). a ∷ l ∷ octets_of (segments_of os)) low
    ∙ ap (λ (l : List ℕ). a ∷ b ∷ l) (octets_back n os (omega (arith, e)) (λ k. bytes (suc (suc k))))

group_back : (n : ℕ) → n < 2 ^ 16 → IsGroupText (group_text n) n
group_back n fits =
    let is = digits_is_IsNumeral 16 false (omega arith) (omega arith) n (omega (arith, fits)) in
    record { digits = is.0; short = group_within n fits; value = is.1 }

each_back : (gs : List ℕ) → AreSegments gs → AllZip IsGroupText (map group_text gs) gs
each_back [] fit = tt
each_back (g ∷ gs) fit = (group_back g (fit 0), each_back gs (λ k. fit (suc k)))

groups_back : (gs : List ℕ) → AreSegments gs → AreGroups (joined_groups gs) gs
unfolding joined_groups
groups_back gs fit = record { pieces = map group_text gs; spelled = refl; each = each_back gs fit }

-- what `find` finds passes, and has what each item of the list has
pub found : {X : Type 0} (p q : X → Bool) (xs : List X) (x : X) → list_all q xs ≡ true → find p xs ≡ Some x → (p x ≡ true) × (q x ≡ true)
found p q [] x all e = absurd cc
found {X} p q (y ∷ ys) x all e = by (p y) refl e (λ f. found p q ys x (and-true (q y) (list_all q ys) all).1 f)
  where
    by : (b : Bool) → p y ≡ b → cond b (Some y) (find p ys) ≡ Some x → (find p ys ≡ Some x → (p x ≡ true) × (q x ≡ true)) → (p x ≡ true) × (q x ≡ true)
    by true passes e later = let same : y ≡ x = cc in (subst (λ (z : X). p z ≡ true) same passes, subst (λ (z : X). q z ≡ true) same (and-true (q y) (list_all q ys) all).0)
    by false fails e later = later e

abbrev pub is_run : ℕ × ℕ → Bool
is_run run = nat_le 2 run.1 && nat_le (run.0 + run.1) 8

pub all_runs : list_all is_run runs ≡ true
unfolding runs
all_runs = refl

pub zeros_are : (xs : List ℕ) → list_all (λ g. g == 0) xs ≡ true → xs ≡ replicate (length xs) 0
zeros_are [] e = refl
zeros_are (x ∷ xs) e =
    let both = and-true (x == 0) (list_all (λ g. g == 0) xs) e in
    ap (λ (g : ℕ). g ∷ xs) (eqb-true x 0 both.0) ∙ ap (λ (l : List ℕ). 0 ∷ l) (zeros_are xs both.1)

segments_take : (n : ℕ) (xs : List ℕ) → AreSegments xs → AreSegments (take n xs)
segments_take zero xs fit k = omega arith
segments_take (suc n) [] fit k = fit k
segments_take (suc n) (x ∷ xs) fit zero = fit 0
segments_take (suc n) (x ∷ xs) fit (suc k) = segments_take n xs (λ j. fit (suc j)) k

segments_drop : (n : ℕ) (xs : List ℕ) → AreSegments xs → AreSegments (drop n xs)
segments_drop zero xs fit k = fit k
segments_drop (suc n) [] fit k = fit k
segments_drop (suc n) (x ∷ xs) fit k = segments_drop n xs (λ j. fit (suc j)) k

elided_back : (gs : List ℕ) (start count : ℕ) → length gs ≡ 8 → AreSegments gs → 2 ≤ count → start + count ≤ 8 → list_all (λ g. g == 0) (take count (drop start gs)) ≡ true
    → IsElided (shortened_text gs (Some (start, count))) gs
elided_back gs start count len fit two within zero_run =
    let front = take start gs in
    let back = drop (start + count) gs in
    let front_len : length front ≡ start = omega (arith, length-take start gs, len) in
    let back_len : length back ≡ 8 - (start + count) = omega (arith, length-drop (start + count) gs, len) in
    let middle_len : length (take count (drop start gs)) ≡ 8 - (length front + length back) = omega (arith, length-take count (drop start gs), length-drop start gs, len, front_len, back_len) in
    let middle : take count (drop start gs) ≡ replicate (8 - (length front + length back)) 0 = zeros_are (take count (drop start gs)) zero_run ∙ ap (λ (n : ℕ). replicate n 0) middle_len in
    let first : take (start + count) gs ≡ front ++ take count (drop start gs) = sym (take-append-drop start (take (start + count) gs)) ∙ ap (λ (l : List ℕ). l ++ drop start (take (start + count) gs)) (take-take start (start + count) gs (omega arith)) ∙ ap (λ (l : List ℕ). front ++ l) (drop-take start count gs) in
    record {
      front_text = joined_groups front;
      back_text = joined_groups back;
      front = front;
      back = back;
      spelled = refl;
      front_groups = groups_back front (segments_take start gs fit);
      back_groups = groups_back back (segments_drop (start + count) gs fit);
      fewer = omega (arith, front_len, back_len);
      value = sym (take-append-drop (start + count) gs) ∙ ap (λ (l : List ℕ). l ++ back) (first ∙ ap (λ (l : List ℕ). front ++ l) middle);
    }

v6_back : (gs : List ℕ) → length gs ≡ 8 → AreSegments gs → IsV6Text (groups_text gs) gs
unfolding shortened_run
v6_back gs len fit = by (shortened_run gs) refl
  where
    by : (run : Option (ℕ × ℕ)) → shortened_run gs ≡ run → IsV6Text (shortened_text gs run) gs
    by None e = inl (groups_back gs fit, len)
    by (Some run) e =
        let facts = found (is_zero_run gs) is_run runs run all_runs e in
        let sizes = and-true (nat_le 2 run.1) (nat_le (run.0 + run.1) 8) facts.1 in
        inr (elided_back gs run.0 run.1 len fit (leb-true 2 run.1 sizes.0) (leb-true (run.0 + run.1) 8 sizes.1) facts.0)

in_family_back : (family : Family) (octets : List ℕ) → length octets ≡ 16 → AreBytes octets → FitsFamily family octets → IsTextIn family (text_in family octets) octets
in_family_back V4 octets len bytes used = (
  take 4 octets,
  record {
    four = omega (arith, length-take 4 octets, len);
    within = All-take (λ n. n < 256) 4 octets (All-from_get_or (λ n. n < 256) octets 0 (λ i _. bytes i));
    spelled = refl;
  },
  used,
)
in_family_back V6 octets len bytes used = (segments_of octets, v6_back (segments_of octets) (length-segments 8 octets (omega (arith, len))) (segments_below octets bytes), sym (octets_back 8 octets (omega (arith, len)) bytes))

-- an address is what its text is read as
pub address_back : (a : AddressValue) → IsAddress a → IsAddressText (address_text a) a
address_back a is = in_family_back a.family a.octets is.len is.bytes is.used

-- and so is a prefix
pub prefix_back : (p : PrefixValue) → IsAddressPrefix p → IsPrefixText (prefix_text p) p
prefix_back p is = record {
  front = address_text p.address;
  back = number_text p.bits;
  address = p.address;
  bits = p.bits;
  spelled = refl;
  is_address = address_back p.address is.address;
  is_number = record { within = omega (arith, is.within, width_within p.address.family); spelled = refl };
  within = is.within;
  value = sym (ap (λ (l : List ℕ). record { address = record { family = p.address.family; octets = l }; bits = p.bits }) is.clear);
}
