use Rattle.std.proofs.Common.{◌∙◌, ap, sym}
use Rattle.feed_archive.specs.Appending.{ArchiveValue}
use Rattle.station_top.specs.declared.archive.Kept.TheVariants as became
use Rattle.station_top.proofs.InputKept.{cut_on, handed_on, is_run, shown_by, starved_on, whole_on}
use Rattle.station_top.proofs.archive.keep.Goals as goal

pub returns-in-Err : goal.returns-in-Err
returns-in-Err g c =
    handed_on g.P.Port.aside g.D.Disk.shows g.D.Disk.faults g.R.BodyReading.meaning g.D.Disk.tells (g.P.Port.aside c.args.port) (g.P.Port.calls c.args.port) (shown_by g.D.Disk.shows g.D.Disk.faults c.args.archive.disk) c.args.archive.place c.take_input-taken.new.port.inner c.into_parts-port.result.0 c.take_input-taken.new.port.archive.disk c.into_disk-disk.result (became.Starved) c.into_parts-port.ensures.parts.0
    (c.into_disk-disk.ensures.same ∙ ap (λ (a : ArchiveValue _). a.disk) c.into_parts-port.ensures.parts.1)
    (starved_on g.P.Port.aside g.P.Port.calls g.D.Disk.shows g.D.Disk.faults g.D.Disk.tells c.args.port c.args.archive c.take_input-taken.new.port
    (is_run g.P.Port.aside g.P.Port.calls g.D.Disk.shows g.D.Disk.faults g.D.Disk.tells c.args.port c.args.archive c.new-keeping.result c.take_input-taken.new.port c.into_parts-port.result.1 c.into_disk-disk.result c.new-keeping.ensures c.take_input-taken.ensures.stays c.into_parts-port.ensures.noted c.into_parts-port.ensures.kept c.into_parts-port.ensures.told
    c.into_parts-port.ensures.inner c.into_parts-port.ensures.place c.into_parts-port.ensures.disk c.into_parts-port.ensures.going c.into_parts-port.ensures.cause c.into_parts-port.ensures.exact c.into_parts-port.ensures.plan c.into_parts-port.ensures.parts.1 c.into_disk-disk.ensures.same c.into_disk-disk.ensures.closed)
    g.R.BodyReading.meaning (rw c.new-keeping.ensures at c.in-Err.ensures.leaves) (rw c.new-keeping.ensures at c.take_input-taken.ensures.went))

pub returns-in-None : goal.returns-in-None
returns-in-None g c =
    handed_on g.P.Port.aside g.D.Disk.shows g.D.Disk.faults g.R.BodyReading.meaning g.D.Disk.tells (g.P.Port.aside c.args.port) (g.P.Port.calls c.args.port) (shown_by g.D.Disk.shows g.D.Disk.faults c.args.archive.disk) c.args.archive.place c.take_input-taken.new.port.inner c.into_parts-port.result.0 c.take_input-taken.new.port.archive.disk c.into_disk-disk.result (became.Whole c.in-Ok.taken.bytes c.in-Ok.taken.cause) c.into_parts-port.ensures.parts.0
    (c.into_disk-disk.ensures.same ∙ ap (λ (a : ArchiveValue _). a.disk) c.into_parts-port.ensures.parts.1)
    (whole_on g.P.Port.aside g.P.Port.calls g.D.Disk.shows g.D.Disk.faults g.D.Disk.tells c.args.port c.args.archive c.take_input-taken.new.port
    (is_run g.P.Port.aside g.P.Port.calls g.D.Disk.shows g.D.Disk.faults g.D.Disk.tells c.args.port c.args.archive c.new-keeping.result c.take_input-taken.new.port c.into_parts-port.result.1 c.into_disk-disk.result c.new-keeping.ensures c.take_input-taken.ensures.stays c.into_parts-port.ensures.noted c.into_parts-port.ensures.kept c.into_parts-port.ensures.told
    c.into_parts-port.ensures.inner c.into_parts-port.ensures.place c.into_parts-port.ensures.disk c.into_parts-port.ensures.going c.into_parts-port.ensures.cause c.into_parts-port.ensures.exact c.into_parts-port.ensures.plan c.into_parts-port.ensures.parts.1 c.into_disk-disk.ensures.same c.into_disk-disk.ensures.closed)
    g.R.BodyReading.meaning _ _ c.in-Ok.taken (rw c.new-keeping.ensures at c.in-Ok.ensures.takes) c.requires (rw c.new-keeping.ensures at c.take_input-taken.ensures.went) (sym c.refused-refused.ensures ∙ c.in-None.is))

pub returns-in-Some : goal.returns-in-Some
returns-in-Some g c =
    handed_on g.P.Port.aside g.D.Disk.shows g.D.Disk.faults g.R.BodyReading.meaning g.D.Disk.tells (g.P.Port.aside c.args.port) (g.P.Port.calls c.args.port) (shown_by g.D.Disk.shows g.D.Disk.faults c.args.archive.disk) c.args.archive.place c.take_input-taken.new.port.inner c.into_parts-port.result.0 c.take_input-taken.new.port.archive.disk c.into_disk-disk.result (became.CutOff c.in-Ok.taken.bytes c.in-Some.fault) c.into_parts-port.ensures.parts.0
    (c.into_disk-disk.ensures.same ∙ ap (λ (a : ArchiveValue _). a.disk) c.into_parts-port.ensures.parts.1)
    (cut_on g.P.Port.aside g.P.Port.calls g.D.Disk.shows g.D.Disk.faults g.D.Disk.tells c.args.port c.args.archive c.take_input-taken.new.port
    (is_run g.P.Port.aside g.P.Port.calls g.D.Disk.shows g.D.Disk.faults g.D.Disk.tells c.args.port c.args.archive c.new-keeping.result c.take_input-taken.new.port c.into_parts-port.result.1 c.into_disk-disk.result c.new-keeping.ensures c.take_input-taken.ensures.stays c.into_parts-port.ensures.noted c.into_parts-port.ensures.kept c.into_parts-port.ensures.told
    c.into_parts-port.ensures.inner c.into_parts-port.ensures.place c.into_parts-port.ensures.disk c.into_parts-port.ensures.going c.into_parts-port.ensures.cause c.into_parts-port.ensures.exact c.into_parts-port.ensures.plan c.into_parts-port.ensures.parts.1 c.into_disk-disk.ensures.same c.into_disk-disk.ensures.closed)
    g.R.BodyReading.meaning _ _ c.in-Ok.taken (rw c.new-keeping.ensures at c.in-Ok.ensures.takes) c.requires c.in-Some.fault (sym c.refused-refused.ensures ∙ c.in-Some.is))
