use Rattle.std.proofs.Common.{codes}
use Rattle.bmp_specs.specs.Lines.{cause_fields}
use Rattle.reply_text.proofs.Further.{further-spaced}
use Rattle.wire_io.proofs.Joins.{join, more}
use Rattle.reply_text.proofs.lines.put_cause.Goals as goal

pub returns-in_err-put_cause_fields : goal.returns-in_err-put_cause_fields
returns-in_err-put_cause_fields g c = more _ _ _ (codes "\n") _ _ _ c.in_err-put_cause_fields.ensures c.from_residual.ensures.0 (further-spaced (cause_fields c.args.cause))

pub returns : goal.returns
returns g c = join _ _ _ _ _ _ _ _ c.in_ok-put_cause_fields.ensures c.write_all.ensures (further-spaced (cause_fields c.args.cause))
