use Rattle.std.proofs.Common.{◌≡◌, ap, arith, ◌∙◌}
use Rattle.bmp_specs.specs.Values.{AttrsValue, OtherValue}
use Rattle.bmp_writer.specs.WrittenAttributes.{others_size}
use Rattle.bmp_writer.proofs.limits.fit_with_any.Goals as goal

pub returns-in-Some-left_by_others : goal.returns-in-Some-left_by_others
returns-in-Some-left_by_others c = λ t.
    let others : others_size c.as_slice.result.now ≡ others_size c.args.attrs.now.others = ap others_size c.as_slice.ensures ∙ ap (λ (a : AttrsValue). others_size a.others) c.attrs.view_is in
    omega (arith, c.in-Some.ensures.some, c.in-Some-left_by_others.ensures.some, others)
