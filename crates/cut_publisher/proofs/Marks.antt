-- A log without the mark tells a history without it.
use Rattle.std.proofs.Common.{ℕ, List, [], ◌∷◌, ◌++◌}
use Rattle.cut_publisher.specs.declared.history.Event.{Event}
use Rattle.cut_publisher.specs.declared.history.Step.{Step}
use Rattle.cut_publisher.specs.declared.history.Step.TheVariants.{Batch, End}
use Rattle.cut_publisher.specs.History.{IsUnmarked, batch, told}
use Rattle.cut_publisher.specs.Logs.{IsOpen}

module _ {E : Type 0} where
  unmarked_behind : (lane : ℕ) (es : List E) (h : List (Event E)) → IsUnmarked h → IsUnmarked (batch lane es ++ h)
  unmarked_behind lane [] h u = u
  unmarked_behind lane (e ∷ es) h u = unmarked_behind lane es h u

  pub told_unmarked : (log : List (Step E)) → IsOpen log → IsUnmarked (told log)
  told_unmarked [] o = tt
  told_unmarked (Batch k es ∷ log) o = unmarked_behind k es (told log) (told_unmarked log o)
  told_unmarked (End ∷ log) o = absurd o
