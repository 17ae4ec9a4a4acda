-- A reply, in a form of ours: the revision of the history that it speaks of, its rows, and their number.
use Rattle.std.specs.Prelude.{ℕ, ◌-◌, ◌^◌, min, List, ◌++◌, length}
use Rattle.std.specs.List.{concat}
use Rattle.bmp_specs.specs.Lines.{at_line, end_line}

-- a count as it is told: at most the greatest number of 64 bits
abbrev pub told_count : ℕ → ℕ
told_count n = min n (2 ^ 64 - 1)

-- the reply of a history of this revision whose rows are told by these lines
abbrev pub reply : ℕ → List (List ℕ) → List ℕ
reply revision lines = at_line revision ++ (concat lines ++ end_line (told_count (length lines)))
