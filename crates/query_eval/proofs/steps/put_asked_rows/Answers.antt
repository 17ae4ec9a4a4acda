use Rattle.std.proofs.Common.{ℕ, Option, ap, ◌∙◌}
use Rattle.bmp_specs.specs.Selection.{SelectValue}
use Rattle.query_lang.specs.Asks.{row_query_value}
use Rattle.query_lang.specs.TraitValues.{traits_value}
use Rattle.query_eval.specs.RowSteps.{total_lines}
use Rattle.query_eval.proofs.Leading.{lines_as}
use Rattle.query_eval.proofs.StepsTold.{both_written, rows_failed, total_failed}
use Rattle.query_eval.proofs.steps.put_asked_rows.Goals as goal

pub returns-in_err-count : goal.returns-in_err-count
returns-in_err-count g c =
    let router = ap (λ (s : SelectValue). s.router) (c.behind-ask.view_is ∙ c.selectors.ensures) in
    let lines = ap (λ (r : Option ℕ). total_lines c.args.ask.now.steps r c.args.lane c.args.tables.now.steps.total) router in
    total_failed c.args.ask.now.steps c.args.ask.now.full (row_query_value c.args.ask.now.query) (traits_value c.args.ask.now.traits) c.args.lane c.args.tables.now c.args.out.now c.put_total.new.out _ c.from_residual.result (lines_as c.args.out.now c.put_total.new.out _ _ _ lines c.in_err-count.ensures) c.from_residual.ensures.0

pub returns-in_err-told : goal.returns-in_err-told
returns-in_err-told g c =
    let router = ap (λ (s : SelectValue). s.router) (c.behind-ask.view_is ∙ c.selectors.ensures) in
    let lines = ap (λ (r : Option ℕ). total_lines c.args.ask.now.steps r c.args.lane c.args.tables.now.steps.total) router in
    rows_failed c.args.ask.now.steps c.args.ask.now.full (row_query_value c.args.ask.now.query) (traits_value c.args.ask.now.traits) c.args.lane c.args.tables.now c.args.out.now c.put_total.new.out c.put_told_rows.new.out c.in_ok-count.count _ c.from_residual-in_err-told.result
    (lines_as c.args.out.now c.put_total.new.out _ _ _ lines c.in_ok-count.ensures) c.in_err-told.ensures c.from_residual-in_err-told.ensures.0

pub returns : goal.returns
returns g c =
    let router = ap (λ (s : SelectValue). s.router) (c.behind-ask.view_is ∙ c.selectors.ensures) in
    let lines = ap (λ (r : Option ℕ). total_lines c.args.ask.now.steps r c.args.lane c.args.tables.now.steps.total) router in
    both_written c.args.ask.now.steps c.args.ask.now.full (row_query_value c.args.ask.now.query) (traits_value c.args.ask.now.traits) c.args.lane c.args.tables.now c.args.out.now c.put_total.new.out c.put_told_rows.new.out c.in_ok-count.count c.in_ok-told.told c.saturating_add.result
    (lines_as c.args.out.now c.put_total.new.out _ _ _ lines c.in_ok-count.ensures) c.in_ok-told.ensures c.saturating_add.ensures
