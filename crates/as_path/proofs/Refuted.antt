-- Wrong results that the clauses of this crate don't let through, each at values.
use Rattle.std.proofs.Common.{◌≡◌, ℕ, List, [], ◌∷◌, ◌++◌, ap, ◌∙◌, append-nil, arith}
use Rattle.std.specs.Prelude.{slice_index}
use Rattle.bmp_specs.specs.declared.wire.SegmentKind.TheVariants.{Set, Sequence}
use Rattle.bmp_specs.specs.declared.wire.Width.TheVariants.{Two}
use Rattle.bmp_specs.specs.AsPath.{ArePath}
use Rattle.bmp_specs.specs.MergedPath.{merged_path, path_count, sequence_of}

-- A segment of type 1 is read as an AS_SEQUENCE.
a_segment_of_type_1_is_no_sequence : (numbers : List ℕ) → ArePath Two (1 ∷ 1 ∷ 0 ∷ 7 ∷ []) (record { kind = Sequence; numbers = numbers } ∷ []) → ⊥
a_segment_of_type_1_is_no_sequence numbers (front, rest, split, is, end) =
    let whole : 1 ∷ 1 ∷ 0 ∷ 7 ∷ [] ≡ front = split.joined ∙ ap (λ (l : List ℕ). front ++ l) end ∙ append-nil front in
    let kind : 1 ≡ 2 = ap (λ (l : List ℕ). slice_index l 0) whole ∙ is.kind_is in
    omega (arith, kind)

-- A segment of type 2 is read as an AS_SET.
a_segment_of_type_2_is_no_set : (numbers : List ℕ) → ArePath Two (2 ∷ 1 ∷ 0 ∷ 7 ∷ []) (record { kind = Set; numbers = numbers } ∷ []) → ⊥
a_segment_of_type_2_is_no_set numbers (front, rest, split, is, end) =
    let whole : 2 ∷ 1 ∷ 0 ∷ 7 ∷ [] ≡ front = split.joined ∙ ap (λ (l : List ℕ). front ++ l) end ∙ append-nil front in
    let kind : 2 ≡ 1 = ap (λ (l : List ℕ). slice_index l 0) whole ∙ is.kind_is in
    omega (arith, kind)

-- An AS_SET counts each of its AS numbers.
a_set_is_not_counted_by_its_numbers : path_count (record { kind = Set; numbers = 1 ∷ 2 ∷ 3 ∷ [] } ∷ []) ≡ 3 → ⊥
a_set_is_not_counted_by_its_numbers three = omega (arith, three)

-- AS4_PATH takes the place of AS_PATH also where it has more AS numbers.
a_longer_as4_path_takes_no_place : merged_path (sequence_of (23456 ∷ []) ∷ []) (sequence_of (70000 ∷ 70001 ∷ []) ∷ []) ≡ sequence_of (70000 ∷ 70001 ∷ []) ∷ [] → ⊥
a_longer_as4_path_takes_no_place put = grind (arith, put)
