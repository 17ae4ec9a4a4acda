use Rattle.bmp_writer.proofs.routes.put_within.Goals as goal

-- where the room is full the call fails
pub returns-in-Err-clause-ok : goal.returns-in-Err-clause-ok
returns-in-Err-clause-ok c = tt
