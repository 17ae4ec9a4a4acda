use Rattle.std.proofs.Common.{refl}
use Rattle.reply_text.specs.Pieces.{spaced}
use Rattle.bmp_specs.specs.RouteLine.{route_fields}
use Rattle.wire_io.proofs.Joins.{join, more}
use Rattle.reply_text.proofs.change.put_announcement.Goals as goal

pub returns-in_err-write_all : goal.returns-in_err-write_all
returns-in_err-write_all g c = more _ _ _ (spaced (route_fields (record { row_key = c.args.row.now; route = c.args.attrs.now }))) _ _ _ c.in_err-write_all.ensures c.from_residual.ensures.0 refl

pub returns : goal.returns
returns g c = join _ _ _ _ _ _ _ _ c.in_ok-write_all.ensures c.put_open_fields.ensures refl
