use Rattle.std.proofs.Common.{refl}
use Rattle.bmp_specs.specs.Lines.{further}
use Rattle.reply_text.specs.Rov.{judged_fields}
use Rattle.wire_io.proofs.Joins.{join, more}
use Rattle.reply_text.proofs.rov.put_rov.Goals as goal

pub returns-in_err-put_number : goal.returns-in_err-put_number
returns-in_err-put_number g c = more _ _ _ (further (judged_fields c.args.row.now c.args.origin c.args.judged.now)) _ _ _ c.in_err-put_number.ensures c.from_residual.ensures.0 refl

pub returns : goal.returns
returns g c = join _ _ _ _ _ _ _ _ c.in_ok-put_number.ensures c.put_judged_row.ensures refl
