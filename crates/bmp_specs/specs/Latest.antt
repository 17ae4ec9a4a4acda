-- The latest of the values in a list that stand for one thing: a notion of ours, of any list.
use Rattle.std.specs.Prelude.{◌≡◌, List, ◌∷◌, ◌++◌}
use Rattle.std.specs.List.{AllByRecursion}

-- x stands somewhere in the list, and nothing after it replaces it
pub record Latest {X : Type 0} (Replaces : X → Type 0) (xs : List X) (x : X) : Type 0 where
  pub before : List X
  pub after : List X
  pub split : xs ≡ before ++ x ∷ after
  pub last : AllByRecursion (λ y. ¬ (Replaces y)) after
