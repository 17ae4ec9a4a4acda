use Rattle.std.proofs.Common.{◌∙◌, ap, sym, arith}
use Rattle.std.proofs.lemmas.List.{drop_all}
use Rattle.ask_specs.specs.Traits.{path_numbers}
use Rattle.query_eval.specs.TraitTests.{stand_in}
use Rattle.query_eval.proofs.TraitLaws.{stand_in_none}
use Rattle.query_eval.proofs.traits.stand_in_segments.Goals as goal

pub returns : goal.returns
returns c =
    let over = drop_all c.loop-segment.segment-index c.args.segments.now (omega (arith, c.loop-segment-test.false)) in
    c.is_empty.ensures ∙ sym (c.loop-segment.invariant ∙ ap (λ s. stand_in c.loop-segment.sought.now (path_numbers s)) over ∙ stand_in_none c.loop-segment.sought.now)
