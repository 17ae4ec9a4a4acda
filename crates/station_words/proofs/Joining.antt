-- Texts that std joins are those that a byte between each two joins.
use Rattle.std.proofs.Common.{◌≡◌, ℕ, List, [], ◌∷◌, ◌++◌, map, refl, ap}
use Rattle.std.specs.List.{join_by, join_with_byte}
use Rattle.std.proofs.lemmas.List.{append-nil}

pub joined_texts : {X : Type 0} (text : X → List ℕ) (c : ℕ) (xs : List X) → join_by text (c ∷ []) xs ≡ join_with_byte c (map text xs)
joined_texts text c [] = refl
joined_texts text c (x ∷ []) = append-nil (text x)
joined_texts text c (x ∷ y ∷ xs) = ap (λ (l : List ℕ). text x ++ (c ∷ l)) (joined_texts text c (y ∷ xs))
