use Rattle.std.proofs.Common.{◌∙◌, ℕ, Ok, Err, ap, subst, inr}
use Rattle.station_doors.specs.Doors.{HandsOut, one_more}
use Rattle.station_top.specs.ArchiveRuns.{HandsBoth, LendsBothWhereTold}
use Rattle.station_top.proofs.Archiving.{kept_where, lends_both, refuses_port}
use Rattle.station_top.proofs.archive.archive_from.Goals as goal

pub returns-in-Err-clause-uses : goal.returns-in-Err-clause-uses
returns-in-Err-clause-uses g c = inr (
  refuses_port g.Y.Port.Port.aside g.Y.Port.Port.calls g.Y.Disk.Disk.tells g.Y.Disk.Disk.shows g.Y.Disk.Disk.faults c.args.path.now (g.Y.KeepYard.seen c.args.yard.now).told (g.Y.KeepYard.seen c.disk.new.self).told (g.Y.KeepYard.seen c.port.new.self).told (g.Y.KeepYard.seen c.take_disk.new.self).told (g.Y.KeepYard.seen c.args.yard.now).calls c.in-Err.failed c.in_ok-disk.disk
      c.in_ok-disk.ensures.told (subst (λ (n : ℕ). HandsOut g.Y.Port.Port.aside g.Y.Port.Port.calls 0 n (g.Y.KeepYard.seen c.disk.new.self).told (g.Y.KeepYard.seen c.port.new.self).told (Err c.in-Err.failed)) c.disk.ensures.counted.calls c.in-Err.ensures.told) c.take_disk.ensures.told,
  c.take_disk.ensures.rest.calls ∙ c.port.ensures.counted.calls ∙ ap one_more c.disk.ensures.counted.calls,
)

pub returns-clause-uses : goal.returns-clause-uses
returns-clause-uses g c = (
  kept_where g.R.BodyReading.meaning
      (HandsBoth g.Y.Disk.Disk.tells (g.Y.Port.Port.aside c.in-Ok.port) (g.Y.Port.Port.calls c.in-Ok.port) (record { value = g.Y.Disk.Disk.shows c.in_ok-disk.disk; faults = g.Y.Disk.Disk.faults c.in_ok-disk.disk }) (g.Y.Port.Port.aside c.archive_input-port.result.0) (record { value = g.Y.Disk.Disk.shows c.archive_input-port.result.1; faults = g.Y.Disk.Disk.faults c.archive_input-port.result.1 }))
      (λ Is. LendsBothWhereTold Is c.args.path.now (g.Y.KeepYard.seen c.args.yard.now).told (g.Y.KeepYard.seen c.take_disk-2.new.self).told (g.Y.KeepYard.seen c.args.yard.now).calls)
      (λ Is uses.
      lends_both Is g.Y.Port.Port.aside g.Y.Port.Port.calls g.Y.Disk.Disk.tells g.Y.Disk.Disk.shows g.Y.Disk.Disk.faults c.args.path.now (g.Y.KeepYard.seen c.args.yard.now).told (g.Y.KeepYard.seen c.disk.new.self).told (g.Y.KeepYard.seen c.port.new.self).told (g.Y.KeepYard.seen c.take_port.new.self).told (g.Y.KeepYard.seen c.take_disk-2.new.self).told (g.Y.KeepYard.seen c.args.yard.now).calls c.in-Ok.port c.in_ok-disk.disk
      (g.Y.Port.Port.aside c.archive_input-port.result.0) (record { value = g.Y.Disk.Disk.shows c.archive_input-port.result.1; faults = g.Y.Disk.Disk.faults c.archive_input-port.result.1 }) c.in_ok-disk.ensures.told
      (subst (λ (n : ℕ). HandsOut g.Y.Port.Port.aside g.Y.Port.Port.calls 0 n (g.Y.KeepYard.seen c.disk.new.self).told (g.Y.KeepYard.seen c.port.new.self).told (Ok c.in-Ok.port)) c.disk.ensures.counted.calls c.in-Ok.ensures.told) uses c.take_port.ensures.told c.take_disk-2.ensures.told)
      c.archive_input-port.result.2 c.archive_input-port.ensures,
  c.take_disk-2.ensures.rest.calls ∙ c.take_port.ensures.rest.calls ∙ c.port.ensures.counted.calls ∙ ap one_more c.disk.ensures.counted.calls,
)
