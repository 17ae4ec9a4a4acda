use Rattle.station_top.proofs.Concluding.{is_taken, breaks_off}
use Rattle.station_top.proofs.alone.take_from.Goals as goal

pub returns-in-Ok-taken-clause-from : goal.returns-in-Ok-taken-clause-from
returns-in-Ok-taken-clause-from g c = is_taken g.R.BodyReading.meaning (g.A.Account.stands c.in-Ok-taken.taken.0) g.Y.Port.Port.aside g.Y.Port.Port.calls (g.Y.Yard.seen c.args.yard.now).told _ (g.Y.Yard.seen c.take_port.new.self).told _ c.in-Ok.port _ c.in-Ok-taken.taken.1 c.in-Ok.ensures.told c.in-Ok-taken.ensures.takes c.take_port.ensures.told

pub returns-in-Err-clause-from : goal.returns-in-Err-clause-from
returns-in-Err-clause-from g c = breaks_off g.R.BodyReading.meaning g.Y.Port.Port.aside g.Y.Port.Port.calls (g.Y.Yard.seen c.args.yard.now).told _ (g.Y.Yard.seen c.take_port.new.self).told _ c.in-Ok.port _ c.in-Ok.ensures.told c.in-Err.ensures.breaks c.take_port.ensures.told
