-- The texts between the commas of a value.
use Rattle.std.specs.Prelude.{ℕ, List, [], ◌==◌, Option, None, Some}
use Rattle.std.specs.Borrow.{Bor}
use Rattle.std.specs.List.{slice_split}
use Rattle.station_words.specs.ServeWords.{comma}

-- the texts between its commas: one more than there are commas
abbrev pub texts_of : List ℕ → List (List ℕ)
texts_of value = slice_split (λ b. b == comma) value

-- the same of what stands behind a comma, where there is one
abbrev pub further_texts : Option (Bor (List ℕ)) → List (List ℕ)
further_texts None = []
further_texts (Some back) = texts_of back.now
