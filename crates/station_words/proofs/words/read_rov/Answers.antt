use Rattle.std.proofs.Common.{codes, map, refl}
use Rattle.std.specs.String.{string_bytes}
use Rattle.station_words.specs.declared.words.Command.TheVariants.{Rov}
use Rattle.station_words.proofs.Commands.{no_judged, no_rov}
use Rattle.station_words.proofs.Readings.{reads_call, reads_none}
use Rattle.station_words.proofs.words.read_rov.Goals as goal

pub returns-in-Some : goal.returns-in-Some
returns-in-Some c =
    reads_call (codes "rov") (map string_bytes c.args.given.now) (record { command = Rov c.in-Some.prefix; lenient = c.split_lenient-lenient.result.0 })
    (refl, (c.in-Some.ensures.some.0, (_, c.split_lenient-lenient.ensures, c.in-Some.ensures.some.1)))

pub returns-in-None : goal.returns-in-None
returns-in-None c =
    let given = map string_bytes c.args.given.now in
    reads_none (codes "rov") given (no_rov (codes "rov") given refl (no_judged _ _ _ c.split_lenient-lenient.ensures c.in-None.ensures.none))
