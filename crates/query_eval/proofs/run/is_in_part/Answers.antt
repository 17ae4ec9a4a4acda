use Rattle.std.proofs.Common.{sym, ap, ◌∙◌}
use Rattle.std.proofs.lemmas.Bool.Decides.{same_from_decides}
use Rattle.query_eval.specs.RowRuns.{contains, in_part}
use Rattle.query_eval.proofs.RowDeciding.{contains_decides}
use Rattle.query_eval.proofs.run.is_in_part.Goals as goal

pub returns-in-Within : goal.returns-in-Within
returns-in-Within c = same_from_decides c.contains.result (contains c.in-Within.asked c.args.prefix.now) c.contains.ensures (contains_decides c.in-Within.asked c.args.prefix.now) ∙ ap (λ p. in_part p c.args.prefix.now) (sym c.in-Within.is)
