-- A text cut at its first `-`.
use Rattle.std.specs.Prelude.{◌≡◌, ◌≢◌, ◌<◌, ℕ, List, ◌∷◌, ◌++◌, length, slice_index}
use Rattle.bmp_specs.specs.PeerText.{dash}

-- the text is the front, the first `-`, and the rest
pub record CutsAtDash (text front rest : List ℕ) : Type 0 where
  pub spelled : text ≡ front ++ (dash ∷ rest)
  pub first : (k : ℕ) → k < length front → slice_index front k ≢ dash
