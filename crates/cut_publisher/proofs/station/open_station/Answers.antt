use Rattle.cut_publisher.proofs.station.open_station.Goals as goal

pub first_writer-requires-clause-live : goal.first_writer-requires-clause-live
first_writer-requires-clause-live g c = c.in_ok-head.ensures.live

pub of-requires-clause-good : goal.of-requires-clause-good
of-requires-clause-good g c = c.in_ok-head.ensures.live.good

pub of-requires-clause-unmarked : goal.of-requires-clause-unmarked
of-requires-clause-unmarked g c = c.in_ok-head.ensures.live.unmarked
