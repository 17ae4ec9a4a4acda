-- The line of how many steps a lane made, before its rows.
use Rattle.std.specs.Prelude.{ℕ, Bool, ◌&&◌, List, [], ◌∷◌, Option, if◌then◌else◌}
use Rattle.std.specs.Ordering.{nat_cmp}
use Rattle.bmp_specs.specs.ChangeLines.{steps_line}
use Rattle.query_eval.specs.Selecting.{is_named}

-- it is told where that is asked for, and the lane is the one that is named, or none is named
abbrev pub total_lines : Bool → Option ℕ → ℕ → ℕ → List (List ℕ)
total_lines with_steps router lane total = if with_steps && is_named nat_cmp router lane then steps_line lane total ∷ [] else []
