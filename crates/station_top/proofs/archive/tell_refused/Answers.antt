use Rattle.std.proofs.Common.{◌++◌}
use Rattle.station_top.specs.ArchiveRuns.{archivefull_line, kept_line}
use Rattle.station_top.specs.declared.status.Status.TheVariants.{ArchiveFull}
use Rattle.station_top.proofs.Concluding.{is_written}
use Rattle.station_top.proofs.archive.tell_refused.Goals as goal

pub returns-in-Full-clause-told : goal.returns-in-Full-clause-told
returns-in-Full-clause-told g c =
    rw c.in-Full.is
    (is_written c.args.out.now c.put_full.new.out (kept_line c.args.bytes ++ archivefull_line) c.put_full.result ArchiveFull c.unless_failed.result c.put_full.ensures c.unless_failed.ensures.fine c.unless_failed.ensures.failed)
