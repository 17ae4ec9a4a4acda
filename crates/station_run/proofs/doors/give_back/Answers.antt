use Rattle.station_run.proofs.Returning.{all_come_back}
use Rattle.station_run.proofs.doors.give_back.Goals as goal

pub returns-clause-told : goal.returns-clause-told
returns-clause-told g c = all_come_back (g.Y.LaneYard.seen c.args.yard.now).told (g.Y.LaneYard.seen c.give_ports.new.yard).told (g.Y.LaneYard.seen c.give_links.new.yard).told _ _ c.give_ports.ensures.told c.give_links.ensures.told
