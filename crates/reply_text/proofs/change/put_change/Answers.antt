use Rattle.std.proofs.Common.{◌≡◌, ◌∙◌, ◌++◌, List, ℕ, [], ◌∷◌, ap, codes}
use Rattle.bmp_specs.specs.ChangeLines.{change_line, step_fields}
use Rattle.bmp_specs.specs.NumberText.{number_text}
use Rattle.bmp_specs.specs.Values.{StepValue}
use Rattle.rib_model.specs.Steps.{step_value}
use Rattle.reply_text.specs.Pieces.{spaced}
use Rattle.reply_text.proofs.Further.{further-spaced}
use Rattle.reply_text.proofs.Joining.{join_three}
use Rattle.reply_text.proofs.Pieces.{line_parts}
use Rattle.wire_io.proofs.Joins.{join_failed, more}
use Rattle.reply_text.proofs.change.put_change.Goals as goal

change_parts : (lane number : ℕ) (step : StepValue)
    → change_line lane (record { number = number; step = step }) ≡ (codes "change" ++ spaced (number_text lane ∷ number_text number ∷ [])) ++ (spaced (step_fields step) ++ codes "\n")
change_parts lane number step =
    line_parts (codes "change") (number_text lane ∷ number_text number ∷ []) (step_fields step)
    ∙ ap (λ (l : List ℕ). (codes "change" ++ spaced (number_text lane ∷ number_text number ∷ [])) ++ l) (further-spaced (step_fields step))

pub returns-in_err-put_numbers : goal.returns-in_err-put_numbers
returns-in_err-put_numbers g c =
    more _ _ _ (spaced (step_fields (step_value c.args.step.now)) ++ codes "\n") _ _ _ c.in_err-put_numbers.ensures c.from_residual.ensures.0 (change_parts c.args.lane c.args.number (step_value c.args.step.now))

pub returns-in_err-put_step : goal.returns-in_err-put_step
returns-in_err-put_step g c =
    join_failed _ _ _ _ _ (codes "\n") _ _ _ c.in_ok-put_numbers.ensures c.in_err-put_step.ensures c.from_residual-in_err-put_step.ensures.0 (change_parts c.args.lane c.args.number (step_value c.args.step.now))

pub returns : goal.returns
returns g c = join_three _ _ _ _ _ _ _ _ _ _ _ c.in_ok-put_numbers.ensures c.in_ok-put_step.ensures c.write_all.ensures (change_parts c.args.lane c.args.number (step_value c.args.step.now))
