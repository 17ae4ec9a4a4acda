use Rattle.std.proofs.Common.{Ok, Err}
use Rattle.station_top.specs.RecallRuns.{HasRecovered, answered, unread}
use Rattle.station_top.proofs.Recalling.{lends_disk}
use Rattle.station_top.proofs.recall.run_recall.Goals as goal

pub returns-in-Ok-content-clause-concludes : goal.returns-in-Ok-content-clause-concludes
returns-in-Ok-content-clause-concludes g c =
    answered c.in-Ok-content.content
    (lends_disk (HasRecovered (Ok c.in-Ok-content.content)) g.Y.Disk.Disk.tells g.Y.Disk.Disk.shows g.Y.Disk.Disk.faults c.args.path.now (g.Y.Yard.seen c.args.yard.now).told (g.Y.Yard.seen c.kept_disk.new.self).told (g.Y.Yard.seen c.take_disk.new.self).told (g.Y.Yard.seen c.args.yard.now).calls c.in-Ok.disk (record { value = g.Y.Disk.Disk.shows c.recover-content.new.disk; faults = g.Y.Disk.Disk.faults c.recover-content.new.disk })
    c.in-Ok.ensures.told (λ t. record { recovers = c.in-Ok-content.ensures.told t; rests = c.recover-content.ensures.rests t; cause = c.in-Ok-content.ensures.cause; planned = c.in-Ok-content.ensures.planned t }) c.take_disk.ensures.told)
    c.reply_content.ensures.answers

pub returns-in-Err-clause-concludes : goal.returns-in-Err-clause-concludes
returns-in-Err-clause-concludes g c =
    unread c.in-Err.fault
    (lends_disk (HasRecovered (Err c.in-Err.fault)) g.Y.Disk.Disk.tells g.Y.Disk.Disk.shows g.Y.Disk.Disk.faults c.args.path.now (g.Y.Yard.seen c.args.yard.now).told (g.Y.Yard.seen c.kept_disk.new.self).told (g.Y.Yard.seen c.take_disk.new.self).told (g.Y.Yard.seen c.args.yard.now).calls c.in-Ok.disk (record { value = g.Y.Disk.Disk.shows c.recover-content.new.disk; faults = g.Y.Disk.Disk.faults c.recover-content.new.disk })
    c.in-Ok.ensures.told (λ t. record { recovers = c.in-Err.ensures.told t; rests = c.recover-content.ensures.rests t; cause = c.in-Err.ensures.cause; planned = c.in-Err.ensures.planned t }) c.take_disk.ensures.told)
    c.refuse.ensures.told
