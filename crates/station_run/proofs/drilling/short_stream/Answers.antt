use Rattle.station_run.proofs.drilling.short_stream.Goals as goal

pub returns-clause-stream : goal.returns-clause-stream
returns-clause-stream c = c.in_ok-stream.ensures
