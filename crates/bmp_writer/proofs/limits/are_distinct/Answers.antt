use Rattle.std.proofs.Common.{arith, ◌≡◌, true, sym, ◌∙◌}
use Rattle.bmp_specs.specs.Values.{OtherValue}
use Rattle.bmp_writer.proofs.Carrying.{distinct_start, distinct_step, distinct_stop, not_true}
use Rattle.bmp_writer.proofs.limits.are_distinct.Goals as goal

pub loop-place-init : goal.loop-place-init
loop-place-init c = distinct_start c.args.others.now

pub loop-place-preserved : goal.loop-place-preserved
loop-place-preserved c =
    let m = c.other.inside in
    let inside : OtherValue = record { flags = m.flags; code = m.code; value = m.value } in
    let here : c.are_of_others.result ≡ true = grind (arith, c.if-not-are_of_others.false, c.if-not-are_of_others.ensures) in
    distinct_step c.args.others.now c.loop-place.place c.index-others-left.result inside c.loop-place-test.true (c.other.view_is ∙ c.index-others-left.is) (c.are_of_others.ensures.0 here) c.loop-place.invariant

pub returns-then-not-are_of_others : goal.returns-then-not-are_of_others
returns-then-not-are_of_others c = (
  λ e. absurd (not_true e),
  λ d.
      let m = c.other.inside in
      let inside : OtherValue = record { flags = m.flags; code = m.code; value = m.value } in
      let here : c.are_of_others.result ≡ true = c.are_of_others.ensures.1 (distinct_stop c.args.others.now c.loop-place.place c.index-others-left.result inside c.loop-place-test.true (c.other.view_is ∙ c.index-others-left.is) d) in
      absurd (not_true (sym c.if-not-are_of_others.true ∙ here)),
)
