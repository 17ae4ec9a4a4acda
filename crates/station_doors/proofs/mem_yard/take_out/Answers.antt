use Rattle.std.proofs.Common.{◌∙◌}
use Rattle.station_doors.proofs.Lent.{removed}
use Rattle.station_doors.proofs.mem_yard.take_out.Goals as goal

pub returns-in-Some-clause-rest : goal.returns-in-Some-clause-rest
returns-in-Some-clause-rest c = c.remove.ensures.items ∙ removed c.args.lane c.args.out.now.items c.in-Some.place (rw (← c.as_slice.ensures.value, ← c.in-Some.is) c.place_of.ensures.place)
