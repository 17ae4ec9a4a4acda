use Rattle.std.proofs.Common.{refl}
use Rattle.bmp_specs.specs.Lines.{cause_fields}
use Rattle.reply_text.specs.Pieces.{spaced}
use Rattle.wire_io.proofs.Joins.{join, more}
use Rattle.reply_text.proofs.change.put_closing.Goals as goal

pub returns-in_err-write_all : goal.returns-in_err-write_all
returns-in_err-write_all g c = more _ _ _ (spaced (cause_fields c.args.cause)) _ _ _ c.in_err-write_all.ensures c.from_residual.ensures.0 refl

pub returns : goal.returns
returns g c = join _ _ _ _ _ _ _ _ c.in_ok-write_all.ensures c.put_cause_fields.ensures refl
