use Rattle.std.proofs.Common.{refl}
use Rattle.path_attrs.proofs.Gathering.{Gathers, gathers_first, gathers_more, gathers_past, gathers_end}
use Rattle.path_attrs.proofs.Keeping.{keeps_first, keeps_next, keeps_end}
use Rattle.path_attrs.proofs.keep.gather.Goals as goal
use Rattle.path_attrs.proofs.keep.gather.Goals.{then-code-lt-PLACES, else-code-lt-PLACES}

pub loop-part-init : goal.loop-part-init
loop-part-init c = record { gathers = rw c.requires.no_values (gathers_first _); keeps = rw c.requires.no_others (keeps_first _) }

pub loop-part-preserved : goal.loop-part-preserved
loop-part-preserved c =
    let here = c.in-Some.ensures.found in
    let more : Gathers c.args.field.now c.in-Some.part.rest.now c.if-code-lt-PLACES.values =
    elim c.if-code-lt-PLACES.branch [
      | then-code-lt-PLACES w ↦ rw w.values-is (gathers_more _ _ _ _ _ c.loop-part.invariant.gathers here _ refl w.if-code-lt-PLACES.true)
      | else-code-lt-PLACES w ↦ rw w.values-is (gathers_past _ _ _ _ _ c.loop-part.invariant.gathers here w.if-code-lt-PLACES.false)
    ] in
    record { gathers = more; keeps = keeps_next _ _ _ _ _ _ c.loop-part.invariant.keeps here c.in_ok-keep.ensures }

pub returns-clause-values : goal.returns-clause-values
returns-clause-values c = gathers_end _ _ _ c.loop-part.invariant.gathers c.in_default.ensures.none

pub returns-clause-others : goal.returns-clause-others
returns-clause-others c = keeps_end _ _ _ c.loop-part.invariant.keeps c.in_default.ensures.none
