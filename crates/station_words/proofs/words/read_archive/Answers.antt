use Rattle.std.proofs.Common.{codes, map, refl}
use Rattle.std.specs.String.{string_bytes}
use Rattle.station_words.specs.declared.words.Command.TheVariants.{Archive}
use Rattle.station_words.proofs.Commands.{no_archive, no_one_file, one_file}
use Rattle.station_words.proofs.Readings.{reads_call, reads_none}
use Rattle.station_words.proofs.words.read_archive.Goals as goal

pub returns-then-asked-eq1 : goal.returns-then-asked-eq1
returns-then-asked-eq1 c =
    let given = map string_bytes c.args.given.now in
    let split = c.split_lenient-lenient in
    reads_call (codes "archive") given (record { command = Archive; lenient = split.result.0 }) (refl, one_file string_bytes split.result.0 given split.result.1.now split.ensures c.if-asked-eq1.true)

pub returns-else-asked-eq1 : goal.returns-else-asked-eq1
returns-else-asked-eq1 c =
    let given = map string_bytes c.args.given.now in
    let split = c.split_lenient-lenient in
    reads_none (codes "archive") given (no_archive (codes "archive") given refl (no_one_file string_bytes split.result.0 given split.result.1.now split.ensures c.if-asked-eq1.false))
