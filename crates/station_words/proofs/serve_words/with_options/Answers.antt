use Rattle.std.proofs.Common.{◌+◌, ◌∙◌, drop, ap, sym, arith}
use Rattle.std.proofs.lemmas.List.{drop_all, drop_more}
use Rattle.clap.specs.Words.{App, app_of, with_rule}
use Rattle.station_words.specs.ServeOptions.{options_of, with_rules}
use Rattle.station_words.proofs.serve_words.with_options.Goals as goal

pub loop-name-preserved : goal.loop-name-preserved
loop-name-preserved c =
    let names = c.args.names.now in
    let i = c.loop-name.name-index in
    ap (λ (a : App). with_rules a (options_of (drop (i + 1) names))) (c.in_ok-command.ensures.shape c.option.ensures.local ∙ ap (with_rule (app_of c.loop-name.command)) c.option.ensures.rule)
    ∙ sym (ap (λ l. with_rules (app_of c.loop-name.command) (options_of l)) (drop_more names i _ (omega arith)))
    ∙ c.loop-name.invariant

pub returns : goal.returns
returns c = sym (ap (λ l. with_rules (app_of c.loop-name.command) (options_of l)) (drop_all c.loop-name.name-index c.args.names.now c.loop-name-test.false)) ∙ c.loop-name.invariant
