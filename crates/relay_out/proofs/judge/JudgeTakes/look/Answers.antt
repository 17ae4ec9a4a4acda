use Rattle.std.proofs.Common.{refl}
use Rattle.relay_out.proofs.judge.JudgeTakes.look.Goals as goal

pub returns : goal.returns
returns c = record { ok = λ done h. h; err = tt; kept = refl }
