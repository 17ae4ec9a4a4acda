use Rattle.std.proofs.Common.{Err, ap, codes, inl, map, refl}
use Rattle.std.specs.String.{string_bytes}
use Rattle.station_words.specs.declared.words.Command.TheVariants.{Replay}
use Rattle.station_words.proofs.Commands.{no_asking, no_replay}
use Rattle.station_words.proofs.Readings.{reads_call, reads_fault}
use Rattle.station_words.proofs.words.read_replay.Goals as goal

pub returns-in-Ok : goal.returns-in-Ok
returns-in-Ok c =
    reads_call (codes "replay") (map string_bytes c.args.given.now) (record { command = Replay c.in-Ok.ask; lenient = c.split_lenient-lenient.result.0 })
    (refl, (_, c.split_lenient-lenient.ensures, c.in-Ok.ensures.ok))

pub returns-in-Err : goal.returns-in-Err
returns-in-Err c =
    let given = map string_bytes c.args.given.now in
    reads_fault (codes "replay") given c.in-Err.fault
    (λ usage. no_replay (codes "replay") given refl (no_asking _ _ _ c.split_lenient-lenient.ensures (c.in-Err.ensures.usage (ap Err usage)))) (inl refl)
