use Rattle.std.proofs.Common.{◌≡◌, Err, map, ap}
use Rattle.std.specs.String.{string_bytes}
use Rattle.station_words.specs.declared.words.WordsFault.TheVariants.{Usage}
use Rattle.station_words.proofs.serve_words.read_serve.Goals as goal

pub returns-in-Ok-clause-usage : goal.returns-in-Ok-clause-usage
returns-in-Ok-clause-usage c = λ usage serve lenient is. c.in-None.ensures.none (map string_bytes c.args.words.now) c.in-Ok.ensures.ok serve lenient is

pub returns-clause-usage : goal.returns-clause-usage
returns-clause-usage c = λ usage serve lenient is.
    let fault : c.in-Err.fault ≡ Usage = cc usage in
    c.in-Err.ensures.usage (ap Err fault) serve lenient is
