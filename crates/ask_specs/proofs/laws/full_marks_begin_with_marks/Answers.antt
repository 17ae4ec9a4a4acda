use Rattle.ask_specs.proofs.FullMarkLaws.{begins_with_mark}
use Rattle.ask_specs.proofs.laws.full_marks_begin_with_marks.Goals as goal

pub returns : goal.returns
returns c = λ lane mark. begins_with_mark lane mark
