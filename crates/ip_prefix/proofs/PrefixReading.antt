-- Reading a prefix at its first slash.
use Rattle.std.proofs.Common.{◌≡◌, ◌≢◌, ℕ, ◌+◌, ◌-◌, ◌<◌, ◌≤◌, Bool, true, false, cond, List, [], ◌∷◌, ◌++◌, Option, None, Some, length, take, drop, get_or, refl, sym, ap, subst, ◌∙◌, arith, append_assoc, length-append, take-append-drop, ne_eqb, eqb-true, lt-ltb}
use Rattle.std.proofs.lemmas.List.{take_at, take_rest, drop_more}
use Rattle.std.proofs.lemmas.List.Elements.{All-head, All-tail}
use Rattle.std.proofs.lemmas.List.Quantifiers.{position-Some}
use Rattle.std.proofs.lemmas.Fmt.{decimal_injective}
use Rattle.std.proofs.Math.Seq.{drop-append_seam}
use Rattle.std.specs.List.{position, position_or_len}
use Rattle.std.specs.Option.{IsSome, IfSome, IfNone}
use Rattle.std.specs.Prelude.{◌==◌, ◌↔◌, nat_lt, not}
use Rattle.bmp_specs.specs.declared.wire.Family.{Family}
use Rattle.bmp_specs.specs.declared.wire.Family.TheVariants.{V4, V6}
use Rattle.bmp_specs.specs.Address.{prefix_at}
use Rattle.bmp_specs.specs.AddressText.{IsTextIn, IsAddressText}
use Rattle.bmp_specs.specs.NumberText.{IsNumberText}
use Rattle.bmp_specs.specs.Prefix.{width_of}
use Rattle.bmp_specs.specs.PrefixText.{IsPrefixText}
use Rattle.bmp_specs.specs.Values.{AddressValue, PrefixValue}
use Rattle.bmp_specs.proofs.Widths.{width_within}
use Rattle.ip_prefix.proofs.V4Text.{Lacks, v4_to, v4_has_dot}
use Rattle.ip_prefix.proofs.V6Text.{v6_lacks}
use Rattle.ip_prefix.proofs.AddressReading.{slash_lacks, no_dot}

first_place : (front back : List ℕ) → Lacks 47 front → position_or_len (λ b. b == 47) (front ++ (47 ∷ back)) ≡ length front
first_place [] back lacks = refl
first_place (x ∷ front) back lacks =
    let other : (x == 47) ≡ false = ne_eqb x 47 (All-head (λ b. b ≢ 47) x front lacks) in
    ap (λ (t : Bool). cond (not t) (1 + position_or_len (λ b. b == 47) (front ++ (47 ∷ back))) 0) other ∙ ap (λ (n : ℕ). 1 + n) (first_place front back (All-tail (λ b. b ≢ 47) x front lacks)) ∙ omega arith

-- the first slash stands after what has none
found_at : (text front back : List ℕ) → text ≡ front ++ (47 ∷ back) → Lacks 47 front → position (λ b. b == 47) text ≡ Some (length front)
found_at text front back e lacks =
    let whole = front ++ (47 ∷ back) in
    let place = first_place front back lacks in
    let within : nat_lt (length front) (length whole) ≡ true = lt-ltb (length front) (length whole) (omega (arith, length-append front (47 ∷ back))) in
    ap (λ (l : List ℕ). position (λ b. b == 47) l) e ∙ ap (λ (n : ℕ). cond (nat_lt n (length whole)) (Some n) None) place ∙ ap (λ (t : Bool). cond t (Some (length front)) None) within

-- a text that is a prefix, cut at its first slash
record Cut (text : List ℕ) (slash : ℕ) (p : PrefixValue) (is : IsPrefixText text p) : Type 0 where
  front : take slash text ≡ is.front
  back : take (length text - (slash + 1)) (drop (slash + 1) text) ≡ is.back

cut_at : (text : List ℕ) (slash : ℕ) (p : PrefixValue) (is : IsPrefixText text p) → Some slash ≡ position (λ b. b == 47) text → Cut text slash p is
cut_at text slash p is found =
    let same : Some slash ≡ Some (length is.front) = found ∙ found_at text is.front is.back is.spelled (slash_lacks is.front is.address is.is_address) in
    let place : slash ≡ length is.front = cc in
    let longer : text ≡ (is.front ++ (47 ∷ [])) ++ is.back = is.spelled ∙ sym (append_assoc is.front (47 ∷ []) is.back) in
    let past : slash + 1 ≡ length (is.front ++ (47 ∷ [])) = omega (arith, place, length-append is.front (47 ∷ [])) in
    record {
      front = ap (λ (l : List ℕ). take slash l) is.spelled ∙ take_at is.front (47 ∷ is.back) slash (sym place);
      back = take_rest text (slash + 1) ∙ ap (λ (n : ℕ). drop n text) past ∙ ap (λ (l : List ℕ). drop (length (is.front ++ (47 ∷ []))) l) longer ∙ drop-append_seam (is.front ++ (47 ∷ [])) is.back;
    }

pub same_family_in : (f g : Family) (text os ps : List ℕ) → IsTextIn f text os → IsTextIn g text ps → f ≡ g
same_family_in V4 V4 text os ps a b = refl
same_family_in V6 V6 text os ps a b = refl
same_family_in V4 V6 text os ps (numbers, a, _) (groups, b, _) = absurd (no_dot text groups (v4_has_dot text numbers (v4_to text numbers a)) (v6_lacks 46 (omega arith) (λ e. omega (arith, e)) text groups b))
same_family_in V6 V4 text os ps (groups, a, _) (numbers, b, _) = absurd (no_dot text groups (v4_has_dot text numbers (v4_to text numbers b)) (v6_lacks 46 (omega arith) (λ e. omega (arith, e)) text groups a))

pub same_number : (text : List ℕ) (m n : ℕ) → IsNumberText text m → IsNumberText text n → m ≡ n
same_number text m n a b = decimal_injective m n (omega (arith, a.within)) (omega (arith, b.within)) (sym a.spelled ∙ b.spelled)

-- the text after the slash
abbrev after : List ℕ → ℕ → List ℕ
after text slash = take (length text - (slash + 1)) (drop (slash + 1) text)

pub reads : (text : List ℕ) (slash bits : ℕ) (a : AddressValue) (r : Option PrefixValue) → Some slash ≡ position (λ b. b == 47) text → IsAddressText (take slash text) a
    → IsNumberText (take (length text - (slash + 1)) (drop (slash + 1) text)) bits → (IsSome r ↔ (bits ≤ width_of a.family)) → IfSome r (λ p. p ≡ prefix_at a bits) → IfSome r (λ p. IsPrefixText text p)
reads text slash bits a None found is number within value = tt
reads text slash bits a (Some p) found is number within value =
    let at = position-Some (λ b. b == 47) text slash 0 (sym found) in
    let slash_is : get_or text slash 0 ≡ 47 = eqb-true (get_or text slash 0) 47 at.1 in
    record {
      front = take slash text;
      back = after text slash;
      address = a;
      bits = bits;
      spelled = sym (take-append-drop slash text) ∙ ap (λ (l : List ℕ). take slash text ++ l) (drop_more text slash 0 at.0 ∙ ap (λ (b : ℕ). b ∷ drop (slash + 1) text) slash_is ∙ ap (λ (l : List ℕ). 47 ∷ l) (sym (take_rest text (slash + 1))));
      is_address = is;
      is_number = number;
      within = within.0 refl;
      value = value;
    }

pub no_slash : (text : List ℕ) → None ≡ position (λ b. b == 47) text → (p : PrefixValue) → IsPrefixText text p → ⊥
no_slash text none p is =
    let same : None ≡ Some (length is.front) = none ∙ found_at text is.front is.back is.spelled (slash_lacks is.front is.address is.is_address) in
    cc

pub no_address : (text : List ℕ) (slash : ℕ) → Some slash ≡ position (λ b. b == 47) text → ((a : AddressValue) → IsAddressText (take slash text) a → ⊥) → (p : PrefixValue) → IsPrefixText text p → ⊥
no_address text slash found none p is = none is.address (subst (λ (l : List ℕ). IsAddressText l is.address) (sym (cut_at text slash p is found).front) is.is_address)

pub no_number : (text : List ℕ) (slash : ℕ) → Some slash ≡ position (λ b. b == 47) text → ((n : ℕ) → IsNumberText (take (length text - (slash + 1)) (drop (slash + 1) text)) n → ⊥) → (p : PrefixValue) → IsPrefixText text p → ⊥
no_number text slash found none p is = none is.bits (subst (λ (l : List ℕ). IsNumberText l is.bits) (sym (cut_at text slash p is found).back) is.is_number)

same_bits : (text : List ℕ) (slash bits : ℕ) → Some slash ≡ position (λ b. b == 47) text → IsNumberText (after text slash) bits → (p : PrefixValue) (is : IsPrefixText text p) → bits ≡ is.bits
same_bits text slash bits found number p is = same_number is.back bits is.bits (subst (λ (l : List ℕ). IsNumberText l bits) (cut_at text slash p is found).back number) is.is_number

pub too_many : (text : List ℕ) (slash bits : ℕ) → Some slash ≡ position (λ b. b == 47) text → IsNumberText (take (length text - (slash + 1)) (drop (slash + 1) text)) bits → 128 < bits → (p : PrefixValue) → IsPrefixText text p → ⊥
too_many text slash bits found number over p is = omega (arith, over, same_bits text slash bits found number p is, is.within, width_within is.address.family)

pub not_within : (text : List ℕ) (slash bits : ℕ) (a : AddressValue) (r : Option PrefixValue) → Some slash ≡ position (λ b. b == 47) text → IsAddressText (take slash text) a
    → IsNumberText (take (length text - (slash + 1)) (drop (slash + 1) text)) bits → (IsSome r ↔ (bits ≤ width_of a.family)) → IfNone r ((p : PrefixValue) → IsPrefixText text p → ⊥)
not_within text slash bits a (Some q) found is_a number within = tt
not_within text slash bits a None found is_a number within = λ p is.
    let family : is.address.family ≡ a.family = same_family_in is.address.family a.family is.front is.address.octets a.octets is.is_address (subst (λ (l : List ℕ). IsAddressText l a) (cut_at text slash p is found).front is_a) in
    let some : false ≡ true = within.1 (omega (arith, same_bits text slash bits found number p is, is.within, ap width_of family)) in
    cc

-- two readings of one text have one front and one back
pub same_cut : (text : List ℕ) (p q : PrefixValue) (is_p : IsPrefixText text p) (is_q : IsPrefixText text q) → (is_p.front ≡ is_q.front) × (is_p.back ≡ is_q.back)
same_cut text p q is_p is_q =
    let found = sym (found_at text is_p.front is_p.back is_p.spelled (slash_lacks is_p.front is_p.address is_p.is_address)) in
    let one = cut_at text (length is_p.front) p is_p found in
    let two = cut_at text (length is_p.front) q is_q found in
    (sym one.front ∙ two.front, sym one.back ∙ two.back)
