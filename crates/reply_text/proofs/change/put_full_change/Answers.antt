use Rattle.std.proofs.Common.{◌≡◌, ◌∙◌, ◌++◌, List, ℕ, true, [], ◌∷◌, ap, codes}
use Rattle.bmp_specs.specs.ChangeLines.{step_fields}
use Rattle.bmp_specs.specs.Lines.{further}
use Rattle.bmp_specs.specs.NumberText.{number_text}
use Rattle.bmp_specs.specs.Values.{StepValue}
use Rattle.ask_specs.specs.AskReply.{further_step_fields, time_fields, told_change}
use Rattle.rib_model.specs.Steps.{step_value}
use Rattle.reply_text.specs.Pieces.{spaced}
use Rattle.reply_text.proofs.Joining.{join_three}
use Rattle.reply_text.proofs.Pieces.{further-append, line_parts}
use Rattle.wire_io.proofs.Joins.{join_failed, more}
use Rattle.reply_text.proofs.change.put_full_change.Goals as goal

change_parts : (lane number : ℕ) (step : StepValue)
    → told_change true lane (record { number = number; step = step }) ≡ (codes "change" ++ spaced (number_text lane ∷ number_text number ∷ [])) ++ (spaced (step_fields step) ++ further (time_fields ++ further_step_fields step))
change_parts lane number step =
    line_parts (codes "change") (number_text lane ∷ number_text number ∷ []) (step_fields step ++ (time_fields ++ further_step_fields step))
    ∙ ap (λ (l : List ℕ). (codes "change" ++ spaced (number_text lane ∷ number_text number ∷ [])) ++ l) (further-append (step_fields step) (time_fields ++ further_step_fields step))

pub returns-in_err-put_numbers : goal.returns-in_err-put_numbers
returns-in_err-put_numbers g c =
    let step = step_value c.args.step.now in
    more _ _ _ (spaced (step_fields step) ++ further (time_fields ++ further_step_fields step)) _ _ _ c.in_err-put_numbers.ensures c.from_residual.ensures.0 (change_parts c.args.lane c.args.number step)

pub returns-in_err-put_step : goal.returns-in_err-put_step
returns-in_err-put_step g c =
    let step = step_value c.args.step.now in
    join_failed _ _ _ _ _ (further (time_fields ++ further_step_fields step)) _ _ _ c.in_ok-put_numbers.ensures c.in_err-put_step.ensures c.from_residual-in_err-put_step.ensures.0 (change_parts c.args.lane c.args.number step)

pub returns : goal.returns
returns g c = join_three _ _ _ _ _ _ _ _ _ _ _ c.in_ok-put_numbers.ensures c.in_ok-put_step.ensures c.put_times.ensures (change_parts c.args.lane c.args.number (step_value c.args.step.now))
