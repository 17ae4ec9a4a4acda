use Rattle.station_top.proofs.CheckCounts.{lines_are}
use Rattle.station_top.specs.Check.{lines_of}
use Rattle.station_top.proofs.counts.CountsReplies.put_reply.Goals as goal

pub returns : goal.returns
returns g c entries tells = record { text = lines_of c.args.self.now; is_reply = lines_are c.args.self.now entries tells; written = c.put_lines.ensures }
