use Rattle.station_top.proofs.Through.{reply_through}
use Rattle.station_top.proofs.alone.write_reply.Goals as goal

pub returns : goal.returns
returns g c = reply_through g.O.Sink.faults g.O.Sink.told g.O.Sink.aside _ _ _ _ _ c.through_buffer.ensures
