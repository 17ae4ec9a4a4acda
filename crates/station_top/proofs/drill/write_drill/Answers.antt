use Rattle.station_top.proofs.Drilling.{replied_on_drill}
use Rattle.station_top.proofs.Through.{reply_through}
use Rattle.station_top.proofs.drill.write_drill.Goals as goal

pub returns : goal.returns
returns g c seed lanes messages is = replied_on_drill seed lanes messages _ is _ _ _ (reply_through g.O.Sink.faults g.O.Sink.told g.O.Sink.aside _ _ _ _ _ (rw c.deref.ensures at c.through_buffer.ensures) is.history is.stands)
