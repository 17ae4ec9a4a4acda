use Rattle.station_top.proofs.CheckCounts.{takes_counted}
use Rattle.station_top.proofs.counts.CountsAccount.note.Goals as goal

pub returns : goal.returns
returns c = takes_counted c.args.self.now c.count.new.self c.args.item.kind c.args.item.length c.count.ensures
