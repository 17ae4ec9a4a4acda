-- What a wrong ring would answer, and that it isn't what the contract asks for.
use Rattle.std.proofs.Common.{◌≡◌, ℕ, ◌-◌, List, [], ◌∷◌, ◌++◌, length, replicate, Some, refl, subst}
use Rattle.std.specs.Arc.{arc_value}
use Rattle.std.specs.List.{AllZip, slice_get}
use Rattle.std.specs.declared.alloc.Global.{Global}
use Rattle.std.specs.declared.sync.Arc.{Arc}
use Rattle.std.specs.declared.vec.Vec.{Vec}
use Rattle.std.proofs.lemmas.Bool.{eqb-false}
use Rattle.std.proofs.lemmas.List.Elements.{length_all_zip}
use Rattle.recent_ring.specs.Recent.{joined, last_items}

same_item : (m n : ℕ) → Some m ≡ Some n → m ≡ n
same_item m n same = cc

-- One back from the last item of a piece of two is the first: who always takes the last of a piece answers the second.
one_back_from_the_last_is_the_first_of_two : (p : Arc (Vec ℕ Global) Global) → (arc_value p).items ≡ 1 ∷ 2 ∷ [] → slice_get (joined (p ∷ [])) (length (joined (p ∷ [])) - 1 - 1) ≡ Some 2 → ⊥
one_back_from_the_last_is_the_first_of_two p is got = eqb-false 1 2 refl (same_item 1 2 (subst (λ (l : List ℕ). slice_get (l ++ []) (length (l ++ []) - 1 - 1) ≡ Some 2) is got))

-- With one item more, 1,023 are all kept, whichever are alike: who lets the oldest go keeps one too few.
one_more_than_1023_leaves_none_out : (R : ℕ → ℕ → Type 0) → AllZip R (last_items (replicate 1023 7 ++ 8 ∷ [])) (last_items (replicate 1022 7 ++ 8 ∷ [])) → ⊥
one_more_than_1023_leaves_none_out R zip = eqb-false 1024 1023 refl (length_all_zip R (last_items (replicate 1023 7 ++ 8 ∷ [])) (last_items (replicate 1022 7 ++ 8 ∷ [])) zip)
