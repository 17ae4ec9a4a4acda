use Rattle.station_top.proofs.Archiving.{begun_on, has_not_begun}
use Rattle.station_top.proofs.archive.archive_input.Goals as goal

pub returns-in-Ok-begin : goal.returns-in-Ok-begin
returns-in-Ok-begin g c =
    begun_on g.R.BodyReading.meaning g.D.Disk.tells (g.P.Port.aside c.args.port) (g.P.Port.calls c.args.port) (record { value = g.D.Disk.shows c.args.disk; faults = g.D.Disk.faults c.args.disk }) (record { value = g.D.Disk.shows c.create.new.disk; faults = g.D.Disk.faults c.create.new.disk })
    (record { value = g.D.Disk.shows c.in-Ok-begin.archive.disk; faults = g.D.Disk.faults c.in-Ok-begin.archive.disk }) c.in-Ok-begin.archive.place (g.P.Port.aside c.keep.result.0) (record { value = g.D.Disk.shows c.keep.result.1; faults = g.D.Disk.faults c.keep.result.1 }) c.keep.result.2
    (λ t. record { creates = c.in-Ok.ensures.told t; calls = c.in-Ok.ensures.calls t; lasts = c.in-Ok.ensures.lasts t; planned = c.in-Ok.ensures.planned t; cause = c.in-Ok.ensures.cause }) c.in-Ok-begin.ensures.ok c.in-Ok-begin.ensures.cause c.in-Ok-begin.ensures.closed c.keep.ensures

pub returns-in-Err-begin : goal.returns-in-Err-begin
returns-in-Err-begin g c = λ t plan u z. (
  u,
  has_not_begun c.in-Err-begin.refused.fault (record { value = g.D.Disk.shows c.args.disk; faults = g.D.Disk.faults c.args.disk }) (record { value = g.D.Disk.shows c.create.new.disk; faults = g.D.Disk.faults c.create.new.disk })
      (record { value = g.D.Disk.shows c.in-Err-begin.refused.disk; faults = g.D.Disk.faults c.in-Err-begin.refused.disk })
      (record { creates = c.in-Ok.ensures.told t; calls = c.in-Ok.ensures.calls t; lasts = c.in-Ok.ensures.lasts t; planned = c.in-Ok.ensures.planned t; cause = c.in-Ok.ensures.cause }) (c.in-Err-begin.ensures.refused t).1 (c.in-Err-begin.ensures.refused t).2 (c.in-Err-begin.ensures.planned t) c.in-Err-begin.ensures.cause,
)
