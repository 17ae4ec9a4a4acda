use Rattle.std.proofs.Common.{refl}
use Rattle.bmp_specs.specs.Lines.{further}
use Rattle.ask_specs.specs.FullLine.{full_fields}
use Rattle.wire_io.proofs.Joins.{join, more}
use Rattle.reply_text.proofs.full.put_full_route.Goals as goal

pub returns-in_err-put_number : goal.returns-in_err-put_number
returns-in_err-put_number g c = more _ _ _ (further (full_fields (record { row_key = c.args.row.now; route = c.args.attrs.now }))) _ _ _ c.in_err-put_number.ensures c.from_residual.ensures.0 refl

pub returns : goal.returns
returns g c = join _ _ _ _ _ _ _ _ c.in_ok-put_number.ensures c.put_full_fields.ensures refl
