-- The lines of a connection's bytes.
use Rattle.std.specs.Prelude.{◌≡◌, ◌≢◌, ◌⊎◌, ℕ, ◌-◌, ◌<◌, Bool, true, List, [], ◌∷◌, ◌++◌, length, take, slice_index, cond, nat_eq}
use Rattle.std.specs.List.{AllByRecursion}

-- no byte ends a line: there is no line feed
abbrev pub HasNoEnd : List ℕ → Type 0
HasNoEnd bytes = AllByRecursion (λ b. b ≢ 10) bytes

-- without one carriage return at the end, if there is one
abbrev pub chomped : List ℕ → List ℕ
chomped body = cond (nat_eq (slice_index body (length body - 1)) 13) (take (length body - 1) body) body

-- Too many bytes for any line, whatever follows them: more than 1,024, where a carriage return at their end isn't counted,
-- since it is no part of the line if a line feed follows.
abbrev pub IsTooMany : List ℕ → Type 0
IsTooMany bytes = 1024 < length (chomped bytes)

-- the next line, which a line feed ends, and what follows it
pub record EndsLine (bytes line rest : List ℕ) : Type 0 where
  pub body : List ℕ
  pub split : bytes ≡ body ++ 10 ∷ rest
  pub plain : HasNoEnd body
  pub line_is : line ≡ chomped body

-- The last line, which no line feed ends: the input ended and there are bytes left, or they are too many for any line.
pub record IsLast (ended : Bool) (bytes line rest : List ℕ) : Type 0 where
  pub plain : HasNoEnd bytes
  pub line_is : line ≡ bytes
  pub rest_is : rest ≡ []
  pub counts : ((ended ≡ true) × (0 < length bytes)) ⊎ IsTooMany bytes

-- No further line: no bytes are left, or no line feed came yet and none will be read. They aren't too many yet.
pub record IsSilent (ended : Bool) (bytes : List ℕ) : Type 0 where
  pub plain : HasNoEnd bytes
  pub few : IsTooMany bytes → ⊥
  pub none : ended ≡ true → bytes ≡ []
