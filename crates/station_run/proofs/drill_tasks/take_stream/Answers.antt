use Rattle.station_run.proofs.Drilled.{taken_whole}
use Rattle.station_run.proofs.drill_tasks.take_stream.Goals as goal

pub returns-clause-whole : goal.returns-clause-whole
returns-clause-whole g c = taken_whole _ _ _ _ _ _ c.in_ok-port.ensures.rest c.in_ok-port.ensures.plan c.requires.none c.requires.short c.in_ok-take_connection.ensures.taken
