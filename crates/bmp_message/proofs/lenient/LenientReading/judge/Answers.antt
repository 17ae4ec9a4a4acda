use Rattle.std.proofs.lemmas.Result.{IfOk-weaker}
use Rattle.bmp_message.specs.Lenient.{lenient_state}
use Rattle.bmp_message.proofs.LenientEntries.{has_entry_so, no_entry_so}
use Rattle.bmp_message.proofs.lenient.LenientReading.judge.Goals as goal

pub returns-clause-ok : goal.returns-clause-ok
returns-clause-ok c =
    IfOk-weaker c.of_type.result _ _
    (λ made p. has_entry_so (lenient_state c.args.self.now) c.args.body.now c.args.kind _ c.of.ensures p.0 (lenient_state c.of_type.new.reading) p.2)
    c.of_type.ensures.ok

pub returns-clause-broken : goal.returns-clause-broken
returns-clause-broken c broken = no_entry_so (lenient_state c.args.self.now) c.args.body.now c.args.kind _ c.of.ensures (c.of_type.ensures.broken broken)
