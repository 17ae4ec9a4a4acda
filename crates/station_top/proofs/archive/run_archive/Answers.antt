use Rattle.station_top.specs.ArchiveRuns.{handed}
use Rattle.station_top.proofs.Archiving.{archive_refused}
use Rattle.station_top.proofs.archive.run_archive.Goals as goal

pub returns-in-Ok-clause-concludes : goal.returns-in-Ok-clause-concludes
returns-in-Ok-clause-concludes g c = handed c.in-Ok.kept c.in-Ok.ensures.uses.0 c.in-Ok.ensures.uses.1 c.tell.ensures.told

pub returns-in-Err-clause-concludes : goal.returns-in-Err-clause-concludes
returns-in-Err-clause-concludes g c = archive_refused g.R.BodyReading.meaning c.args.path.now (g.Y.KeepYard.seen c.args.yard.now).told (g.Y.KeepYard.seen c.archive_from.new.yard).told (g.Y.KeepYard.seen c.args.yard.now).calls (g.Y.KeepYard.seen c.archive_from.new.yard).calls (g.O.Sink.told c.args.out.now) c.in-Err.ensures.uses
