use Rattle.station_run.proofs.run.put_done.Goals as goal

pub returns : goal.returns
returns g c = rw (c.as_bytes.ensures.value, c.format.ensures.text) at c.write_pieces.ensures
