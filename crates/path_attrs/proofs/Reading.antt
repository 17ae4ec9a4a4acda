-- One path attribute after another, as the loops read them.
use Rattle.std.proofs.Common.{◌≡◌, ◌+◌, ◌-◌, ◌≤◌, ℕ, List, [], ◌∷◌, ◌++◌, length, take, drop, get_or, refl, sym, ap, subst, ◌∙◌, arith, take-append-drop}
use Rattle.std.proofs.lemmas.List.{append_cancel_left, get_or_append_left, take_rest}
use Rattle.bmp_specs.specs.Attribute.{IsAttribute, attribute_header, value_length}
use Rattle.bmp_specs.specs.Parts.{AreParts}
use Rattle.bmp_specs.specs.Sequence.{HasFront}
use Rattle.bmp_specs.specs.Values.{OtherValue}
use Rattle.bmp_specs.proofs.AttributesOne.{attribute_code, attribute_header-append, attribute_header-long, value_length-append}

-- the parts of the rest are the attribute at the front, and the others
pub front_part : (rest after : List ℕ) (a : OtherValue) (parts : List OtherValue) → HasFront IsAttribute rest a after → AreParts IsAttribute rest parts
    → (others : List OtherValue) × (parts ≡ a ∷ others) × AreParts IsAttribute after others
front_part rest after a [] (front, split, is) e = absurd (attribute_code.some a (subst (λ (l : List ℕ). IsAttribute l a) (none front after (sym split.joined ∙ e)) is))
  where
    none : (xs ys : List ℕ) → xs ++ ys ≡ [] → xs ≡ []
    none [] ys p = refl
    none (x ∷ xs) ys p = absurd cc
front_part rest after a (b ∷ others) (front, split, is) (front', after', split', is', are) =
    let same = attribute_code.one front front' after after' a b is is' (sym split.joined ∙ split'.joined) in
    let tail : after' ≡ after = sym (append_cancel_left front after after' (sym split.joined ∙ split'.joined ∙ ap (λ (f : List ℕ). f ++ after') (sym same.0))) in
    (others, ap (λ (x : OtherValue). x ∷ others) (sym same.1), subst (λ (r : List ℕ). AreParts IsAttribute r others) tail are)

-- the attribute that was cut off stands at the front
pub part_found : (input front rest : List ℕ) (h n : ℕ) → h ≡ attribute_header input → n ≡ value_length input → front ≡ take (h + n) input → rest ≡ drop (h + n) input → length front ≡ h + n
    → HasFront IsAttribute input (record { flags = get_or input 0 0; code = get_or input 1 0; value = take (length front - h) (drop h front) }) rest
part_found input front rest h n hs ns is others len =
    let split : input ≡ front ++ rest = sym (take-append-drop (h + n) input) ∙ ap (λ (l : List ℕ). l ++ drop (h + n) input) (sym is) ∙ ap (λ (l : List ℕ). front ++ l) (sym others) in
    let long : 3 ≤ length front = omega (arith, len, hs, attribute_header-long input) in
    let header : attribute_header input ≡ attribute_header front = ap (λ (l : List ℕ). attribute_header l) split ∙ attribute_header-append front rest long in
    let room : attribute_header front ≤ length front = omega (arith, header, hs, len) in
    let value : value_length input ≡ value_length front = ap (λ (l : List ℕ). value_length l) split ∙ value_length-append front rest room in (
      front,
      record { joined = split },
      record {
        header = room;
        flags_is = sym (get_or_append_left front rest 0 0 (omega (arith, long))) ∙ ap (λ (l : List ℕ). get_or l 0 0) (sym split);
        code_is = sym (get_or_append_left front rest 0 1 (omega (arith, long))) ∙ ap (λ (l : List ℕ). get_or l 1 0) (sym split);
        length_is = omega (arith, header, value, len, hs, ns);
        value_is = ap (λ (m : ℕ). drop m front) (sym (hs ∙ header)) ∙ sym (take_rest front h);
      },
    )
