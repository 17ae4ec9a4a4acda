use Rattle.std.proofs.lemmas.Result.{IfOk-weaker}
use Rattle.bmp_message.specs.State.{reading_state}
use Rattle.bmp_message.proofs.Judging.{has_entry, no_entry}
use Rattle.bmp_message.proofs.reading.Reading.judge.Goals as goal

pub returns-clause-ok : goal.returns-clause-ok
returns-clause-ok c =
    IfOk-weaker c.of_type.result _ _
    (λ made p. has_entry (reading_state c.args.self.now) c.args.body.now c.args.kind _ c.of.ensures p.0 (reading_state c.of_type.new.reading) p.2)
    c.of_type.ensures.ok

pub returns-clause-broken : goal.returns-clause-broken
returns-clause-broken c broken = no_entry (reading_state c.args.self.now) c.args.body.now c.args.kind _ c.of.ensures (c.of_type.ensures.broken broken)
