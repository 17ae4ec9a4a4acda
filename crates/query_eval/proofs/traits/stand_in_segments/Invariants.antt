use Rattle.std.proofs.Common.{◌≡◌, drop}
use Rattle.ask_specs.specs.Traits.{path_numbers}
use Rattle.query_eval.specs.TraitTests.{stand_in}
use Rattle.query_eval.proofs.traits.stand_in_segments.Given as goal

abbrev pub invariant-loop-segment : goal.invariant-loop-segment
invariant-loop-segment l = stand_in l.numbers (path_numbers l.segments) ≡ stand_in l.sought (path_numbers (drop l.segment-index l.segments))
