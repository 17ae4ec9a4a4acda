-- Wrong results that the clauses of this crate don't let through, each at values.
use Rattle.std.proofs.Common.{◌≡◌, ℕ, true, false, List, [], ◌∷◌, ◌++◌, Some, length, drop, map, refl, ap, subst, ◌∙◌, append-nil, length-append, length-drop, arith}
use Rattle.std.specs.Prelude.{◌==◌}
use Rattle.std.specs.List.{IsDistinct}
use Rattle.bmp_specs.specs.declared.wire.SegmentKind.TheVariants.{Sequence}
use Rattle.bmp_specs.specs.declared.wire.Width.TheVariants.{Two, Four}
use Rattle.bmp_specs.specs.AsPath.{ArePath, IsAsNumber}
use Rattle.bmp_specs.specs.Attribute.{IsAttribute}
use Rattle.bmp_specs.specs.Attributes.{AreAttributes, Optional}
use Rattle.bmp_specs.specs.FourOctetAs.{ignores_as4}
use Rattle.bmp_specs.specs.Parts.{AreParts}
use Rattle.bmp_specs.specs.Values.{AggregatorValue, AttrsReadValue, OtherValue}
use Rattle.bmp_specs.proofs.AttributesOne.{attribute_code}
use Rattle.bmp_specs.proofs.PartsRead.{AreParts-one}

-- A second attribute of a type is accepted where the first has octets.
abbrev med : ℕ → List ℕ
med value = 128 ∷ 4 ∷ 4 ∷ 0 ∷ 0 ∷ 0 ∷ value ∷ []

abbrev med_value : ℕ → OtherValue
med_value value = record { flags = 128; code = 4; value = 0 ∷ 0 ∷ 0 ∷ value ∷ [] }

is_med : (value : ℕ) → IsAttribute (med value) (med_value value)
is_med value = record { header = omega arith; flags_is = refl; code_is = refl; length_is = refl; value_is = refl }

two_attributes_of_one_type_are_none : (read : AttrsReadValue) → AreAttributes Four (med 1 ++ med 2) read → ⊥
unfolding IsDistinct
two_attributes_of_one_type_are_none read is =
    let two : AreParts IsAttribute (med 1 ++ med 2) (med_value 1 ∷ med_value 2 ∷ []) = (med 1, med 2, record { joined = refl }, is_med 1, (med 2, [], record { joined = refl }, is_med 2, refl)) in
    let same : is.parts ≡ med_value 1 ∷ med_value 2 ∷ [] = AreParts-one IsAttribute attribute_code (med 1 ++ med 2) is.parts (med_value 1 ∷ med_value 2 ∷ []) is.are two in
    let distinct : IsDistinct (λ j k. j == k) (4 ∷ 4 ∷ []) = subst (λ (parts : List OtherValue). IsDistinct (λ j k. j == k) (map (λ a. a.code) parts)) same is.distinct in
    grind (arith, distinct.0.0)

-- AS_PATH is made in four-octet form.
a_path_of_two_octets_is_not_made_of_four : Optional (ArePath Two) (Some (2 ∷ 1 ∷ 0 ∷ 7 ∷ 2 ∷ 0 ∷ [])) (Some (record { kind = Sequence; numbers = 459264 ∷ [] } ∷ [])) → ⊥
a_path_of_two_octets_is_not_made_of_four (front, rest, split, is, end) =
    let whole : 2 ∷ 1 ∷ 0 ∷ 7 ∷ 2 ∷ 0 ∷ [] ≡ front = split.joined ∙ ap (λ (l : List ℕ). front ++ l) end ∙ append-nil front in
    number front is.numbers_are (ap length whole)
  where
    number : (bytes : List ℕ) → AreParts (IsAsNumber Two) (drop 2 bytes) (459264 ∷ []) → 6 ≡ length bytes → ⊥
    number bytes (here, after, parts, one, none) six = omega (arith, one.len, six, ap length parts.joined, length-append here after, ap length none, length-drop 2 bytes)

-- AS4_PATH and AS4_AGGREGATOR are ignored where AGGREGATOR has AS_TRANS, and count where it has another AS.
abbrev of_as : ℕ → AggregatorValue
of_as asn = record { asn = asn; identifier = 10 ∷ 0 ∷ 0 ∷ 1 ∷ [] }

as_trans_does_not_ignore : ignores_as4 (Some (of_as 23456)) (Some (0 ∷ 1 ∷ 17 ∷ 112 ∷ 10 ∷ 0 ∷ 0 ∷ 1 ∷ [])) ≡ true → ⊥
as_trans_does_not_ignore ignored = grind (arith, ignored)

another_as_ignores : ignores_as4 (Some (of_as 64500)) (Some (0 ∷ 1 ∷ 17 ∷ 112 ∷ 10 ∷ 0 ∷ 0 ∷ 1 ∷ [])) ≡ false → ⊥
another_as_ignores counted = grind (arith, counted)
