use Rattle.std.proofs.Common.{refl}
use Rattle.bmp_specs.specs.EscapedText.{escaped_text}
use Rattle.wire_io.proofs.Joins.{join, more}
use Rattle.reply_text.proofs.escaped.put_text.Goals as goal

pub returns-in_err-write_all : goal.returns-in_err-write_all
returns-in_err-write_all g c = more _ _ _ (escaped_text c.args.bytes.now) _ _ _ c.in_err-write_all.ensures c.from_residual.ensures.0 refl

pub returns : goal.returns
returns g c = join _ _ _ _ _ _ _ _ c.in_ok-write_all.ensures c.put_escaped.ensures refl
