use Rattle.std.proofs.Common.{Err, ap, codes, inl, inr, map, refl}
use Rattle.std.specs.String.{string_bytes}
use Rattle.station_words.specs.declared.words.Command.TheVariants.{Serve}
use Rattle.station_words.proofs.Commands.{no_serve}
use Rattle.station_words.proofs.Readings.{reads_call, reads_fault}
use Rattle.station_words.proofs.words.read_served.Goals as goal

pub returns-in-Ok : goal.returns-in-Ok
returns-in-Ok c =
    reads_call (codes "serve") (map string_bytes c.args.given.now) (record { command = Serve c.in-Ok.serve; lenient = c.in-Ok.lenient }) (refl, c.in-Ok.ensures.ok)

pub returns-in-Err : goal.returns-in-Err
returns-in-Err c =
    let given = map string_bytes c.args.given.now in
    reads_fault (codes "serve") given c.in-Err.fault (λ usage. no_serve (codes "serve") given refl (c.in-Err.ensures.usage (ap Err usage))) (inr (inl refl))
