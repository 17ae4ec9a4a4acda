use Rattle.std.proofs.Common.{codes, refl}
use Rattle.wire_io.proofs.Joins.{join, more}
use Rattle.reply_text.proofs.full.put_rest.Goals as goal

pub returns-in_err-put_raw : goal.returns-in_err-put_raw
returns-in_err-put_raw g c = more _ _ _ (codes "\n") _ _ _ c.in_err-put_raw.ensures c.from_residual.ensures.0 refl

pub returns : goal.returns
returns g c = join _ _ _ _ _ _ _ _ c.in_ok-put_raw.ensures c.write_all.ensures refl
