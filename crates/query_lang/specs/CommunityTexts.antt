-- How the text of a community is read piece by piece.
use Rattle.std.specs.Prelude.{ℕ, List, ◌∷◌, ◌++◌, unwrap_or, []}
use Rattle.ask_specs.specs.Traits.{plain, large}
use Rattle.ask_specs.specs.TraitText.{IsCommunityText, colon, extended_word}

-- the text of an extended community in words, by the low octet of its type: what follows the word
abbrev pub worded : ℕ → List ℕ → List ℕ
worded low rest = unwrap_or (extended_word low) [] ++ (colon ∷ rest)

-- and with its two administrators
abbrev pub named : ℕ → List ℕ → List ℕ → List ℕ
named low admin local = worded low (admin ++ (colon ∷ local))

-- the text is of no community of two numbers, and of none of three
pub record IsNoNumbers (text : List ℕ) : Type 0 where
  pub no_plain : (c : ℕ) → IsCommunityText text (plain c) → ⊥
  pub no_large : (a b c : ℕ) → IsCommunityText text (large a b c) → ⊥
