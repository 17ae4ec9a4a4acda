-- Numbers as texts, in the station's own form.
use Rattle.std.specs.Prelude.{◌≡◌, ℕ, ◌≤◌, List, decimal}

-- the decimal digits of a number, without a leading zero
abbrev pub number_text : ℕ → List ℕ
number_text n = decimal n

-- the greatest number that is read: an AS number, a path identifier and a lane each have four bytes
abbrev pub most_number : ℕ
most_number = 4294967295

-- the greatest step number
abbrev pub most_step : ℕ
most_step = 18446744073709551615

-- the text is this number, of at most so much
pub record IsNumberUpTo (most : ℕ) (text : List ℕ) (n : ℕ) : Type 0 where
  pub within : n ≤ most
  pub spelled : text ≡ number_text n

-- the text is this number
abbrev pub IsNumberText : List ℕ → ℕ → Type 0
IsNumberText text n = IsNumberUpTo most_number text n

-- the text is this step number
abbrev pub IsStepText : List ℕ → ℕ → Type 0
IsStepText text n = IsNumberUpTo most_step text n
