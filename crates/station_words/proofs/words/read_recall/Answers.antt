use Rattle.std.proofs.Common.{Err, ap, codes, inr, map, refl}
use Rattle.std.specs.String.{string_bytes}
use Rattle.station_words.specs.declared.words.Command.TheVariants.{Recall}
use Rattle.station_words.proofs.Commands.{no_recall, no_recalled}
use Rattle.station_words.proofs.Readings.{reads_call, reads_fault}
use Rattle.station_words.proofs.words.read_recall.Goals as goal

pub returns-in-Ok : goal.returns-in-Ok
returns-in-Ok c =
    reads_call (codes "recall") (map string_bytes c.args.given.now) (record { command = Recall c.in-Ok.ask; lenient = c.split_lenient-lenient.result.0 })
    (refl, (c.in-Ok.ensures.ok.0, (_, c.split_lenient-lenient.ensures, c.in-Ok.ensures.ok.1)))

pub returns-in-Err : goal.returns-in-Err
returns-in-Err c =
    let given = map string_bytes c.args.given.now in
    reads_fault (codes "recall") given c.in-Err.fault
    (λ usage. no_recall (codes "recall") given refl (no_recalled _ _ _ c.split_lenient-lenient.ensures (c.in-Err.ensures.usage (ap Err usage)))) (inr (inr refl))
