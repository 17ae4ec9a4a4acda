use Rattle.std.proofs.Common.{refl}
use Rattle.bmp_specs.specs.Lines.{further}
use Rattle.ask_specs.specs.FullLine.{further_fields}
use Rattle.wire_io.proofs.Joins.{join, more}
use Rattle.reply_text.proofs.route_lines.put_told.Goals as goal

pub returns-in_err-write_all : goal.returns-in_err-write_all
returns-in_err-write_all g c = more _ _ _ (further (further_fields c.args.attrs.now)) _ _ _ c.in_err-write_all.ensures c.from_residual.ensures.0 refl

pub returns : goal.returns
returns g c = join _ _ _ _ _ _ _ _ c.in_ok-write_all.ensures c.put_further.ensures refl
