use Rattle.ask_specs.proofs.WrongLaws.{full_cut, full_marks_through, steps_before_full_marks}
use Rattle.ask_specs.proofs.wrong.full_marks_take_no_more.Goals as goal

pub returns : goal.returns
returns c = (λ ask is. full_marks_through ask is, λ ask is. steps_before_full_marks ask is, λ ask is. full_cut ask is)
