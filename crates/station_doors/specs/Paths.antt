-- Under which path something stands.
use Rattle.std.specs.Prelude.{ℕ, Bool, List, ◌==◌}
use Rattle.std.specs.Cmp.Lexicographic.{pointwise}

-- whether two paths are one: they have the same bytes
abbrev pub same_path : List ℕ → List ℕ → Bool
same_path a b = pointwise (λ x y. x == y) a b
