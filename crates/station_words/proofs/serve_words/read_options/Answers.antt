use Rattle.std.proofs.Common.{◌≡◌, [], map, refl, sym, ap, ◌∙◌}
use Rattle.std.specs.String.{string_bytes}
use Rattle.clap.specs.Words.{App, app_of, is_simple}
use Rattle.clap.specs.Faults.{fault_of, is_simple_and_free}
use Rattle.station_words.specs.declared.words.WordsFault.TheVariants.{Usage}
use Rattle.station_words.proofs.OptionMatches.{is_simple_app}
use Rattle.station_words.proofs.OptionServe.{are_matches, serve_passes, serve_plain, by_memory, any_text}
use Rattle.station_words.proofs.serve_words.read_options.Goals as goal

pub returns-then-has_dashes-clause-usage : goal.returns-then-has_dashes-clause-usage
returns-then-has_dashes-clause-usage c = λ usage serve lenient is.
    let plain = sym (any_text string_bytes c.args.words.now) ∙ serve_plain serve lenient (map string_bytes c.args.words.now) is in
    cc (c.has_dashes.ensures, c.if-has_dashes.true, plain)

pub returns-in-Ok-try_get_matches_from-clause-ok : goal.returns-in-Ok-try_get_matches_from-clause-ok
returns-in-Ok-try_get_matches_from-clause-ok c =
    let words = map string_bytes c.args.words.now in
    let app = c.in-Ok.ensures in
    let e = c.in-Ok-try_get_matches_from.ensures in
    are_matches (app_of c.in-Ok.command) words c.in-Ok-try_get_matches_from.matches app (any_text string_bytes c.args.words.now ∙ sym c.has_dashes.ensures ∙ c.if-has_dashes.false) (e.kinds (ap is_simple_and_free app ∙ is_simple_app)) (e.matches (ap is_simple app ∙ refl)).0

pub returns-in-Err-clause-usage : goal.returns-in-Err-clause-usage
returns-in-Err-clause-usage c = λ usage serve lenient is.
    let words = map string_bytes c.args.words.now in
    let app = c.in-Ok.ensures in
    let fault : c.fault_by.result ≡ Usage = cc usage in
    let none : fault_of (app_of c.in-Ok.command) words ≡ [] = ap (λ (a : App). fault_of a words) app ∙ serve_passes serve lenient words is in
    c.fault_by.ensures fault (c.kind.ensures ∙ by_memory (fault_of (app_of c.in-Ok.command) words) c.in-Err.error none (c.in-Err.ensures.kinds (ap is_simple_and_free app ∙ is_simple_app)))
