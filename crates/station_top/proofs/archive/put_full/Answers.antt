use Rattle.std.proofs.Common.{refl}
use Rattle.station_top.specs.ArchiveRuns.{archivefull_line}
use Rattle.wire_io.proofs.Joins.{join, more}
use Rattle.station_top.proofs.archive.put_full.Goals as goal

pub returns-in_err-put_number : goal.returns-in_err-put_number
returns-in_err-put_number g c = more _ _ _ archivefull_line _ _ _ c.in_err-put_number.ensures c.from_residual.ensures.0 refl

pub returns : goal.returns
returns g c = join _ _ _ _ _ _ _ _ c.in_ok-put_number.ensures c.write_all.ensures refl
