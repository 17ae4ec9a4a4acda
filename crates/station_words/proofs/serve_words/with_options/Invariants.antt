use Rattle.std.proofs.Common.{◌≡◌, drop}
use Rattle.clap.specs.Words.{app_of}
use Rattle.station_words.specs.ServeOptions.{options_of, with_rules}
use Rattle.station_words.proofs.serve_words.with_options.Given as goal

abbrev pub invariant-loop-name : goal.invariant-loop-name
invariant-loop-name l = with_rules (app_of l.command) (options_of (drop l.name-index l.names)) ≡ with_rules (app_of l.fn.command) (options_of l.names)
