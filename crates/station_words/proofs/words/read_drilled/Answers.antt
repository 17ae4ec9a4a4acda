use Rattle.std.proofs.Common.{codes, false, map, refl}
use Rattle.std.specs.String.{string_bytes}
use Rattle.station_words.specs.declared.words.Command.TheVariants.{Drill}
use Rattle.station_words.proofs.Commands.{no_drill}
use Rattle.station_words.proofs.Readings.{reads_call, reads_none}
use Rattle.station_words.proofs.words.read_drilled.Goals as goal

pub returns-in-Some : goal.returns-in-Some
returns-in-Some c =
    reads_call (codes "drill") (map string_bytes c.args.given.now) (record { command = Drill c.in-Some.drill; lenient = false }) (refl, c.in-Some.ensures.some, refl)

pub returns-in-None : goal.returns-in-None
returns-in-None c =
    let given = map string_bytes c.args.given.now in
    reads_none (codes "drill") given (no_drill (codes "drill") given refl c.in-None.ensures.none)
