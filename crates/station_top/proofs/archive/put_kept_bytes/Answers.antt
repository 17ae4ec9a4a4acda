use Rattle.std.proofs.Common.{refl}
use Rattle.bmp_specs.specs.Lines.{stop_line}
use Rattle.wire_io.proofs.Joins.{join, more}
use Rattle.station_top.proofs.archive.put_kept_bytes.Goals as goal

pub returns-in_err-put_number : goal.returns-in_err-put_number
returns-in_err-put_number g c = more _ _ _ (stop_line c.args.cause) _ _ _ c.in_err-put_number.ensures c.from_residual.ensures.0 refl

pub returns : goal.returns
returns g c = join _ _ _ _ _ _ _ _ c.in_ok-put_number.ensures c.put_stop.ensures refl
