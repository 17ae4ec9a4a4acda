use Rattle.std.proofs.lemmas.Result.{err_from_is_err_and}
use Rattle.wire_io.proofs.Faults.{broken_below}
use Rattle.bmp_message.specs.State.{reading_state}
use Rattle.bmp_message.proofs.Judging.{is_entry, no_entry}
use Rattle.bmp_message.proofs.reading.ReadingBodyReading.entry.Goals as goal

pub returns-clause-ok : goal.returns-clause-ok
returns-clause-ok c =
    let made = c.in_ok-effects.ensures.ok in
    is_entry (reading_state c.args.self.now) c.args.body.now c.args.kind _ c.of.ensures made.0 _ _ (reading_state c.of_type.new.reading) made.1 c.head_of-head.ensures made.2

pub returns-in_err-effects-clause-broken : goal.returns-in_err-effects-clause-broken
returns-in_err-effects-clause-broken c =
    let p = err_from_is_err_and c.from_residual.result c.from_residual.ensures.1 in
    rw (p.1, p.2) (λ broken. no_entry (reading_state c.args.self.now) c.args.body.now c.args.kind _ c.of.ensures (c.in_err-effects.ensures.broken (broken_below _ broken)))
