use Rattle.std.proofs.Common.{map, true, codes, ap, ap₂, ◌≡◌, ◌∙◌}
use Rattle.std.proofs.lemmas.Result.{IfOk-weaker}
use Rattle.clap.specs.Words.{App, app_of, new_app, with_rule}
use Rattle.clap.specs.Simple.{app_of_fields}
use Rattle.clap.specs.declared.builder.command.Command.{Command}
use Rattle.clap.specs.declared.builder.command.Command.TheOpen.{Command-F}
use Rattle.station_words.specs.ServeOptions.{option_names, option_rule, with_rules}
use Rattle.station_words.proofs.serve_words.serve_command.Goals as goal

pub returns : goal.returns
returns c =
    let start : App = record (new_app (codes "serve")) { top = record (new_app (codes "serve")).top { no_binary_name = true; disable_help_flag = true } } in
    let begun : app_of c.disable_help_flag-command.result ≡ start = ap app_of_fields (c.disable_help_flag-command.ensures ∙ ap (λ (f : Command-F Command). record f { disable_help_flag = true }) c.no_binary_name.ensures) ∙ ap (λ (a : App). record a { top = record a.top { no_binary_name = true; disable_help_flag = true } }) c.new.ensures.app in
    IfOk-weaker c.arg.result _ _ (λ command h. h.shape c.lenient.ensures.local ∙ ap₂ with_rule (c.in_ok-with_options.ensures ∙ ap (λ (a : App). with_rules a (map option_rule option_names)) begun) c.lenient.ensures.rule) c.arg.ensures
