use Rattle.std.proofs.Common.{sym, arith, length-take}
use Rattle.std.proofs.lemmas.List.{take_all}
use Rattle.station_doors.proofs.host_port.first_of.Goals as goal

pub slice_bounds-result-end : goal.slice_bounds-result-end
slice_bounds-result-end c = omega (arith, length-take 64 c.args.octets.now)

pub returns-then-octets-le-MOST_OCTETS-clause-first : goal.returns-then-octets-le-MOST_OCTETS-clause-first
returns-then-octets-le-MOST_OCTETS-clause-first c = sym (take_all 64 c.args.octets.now (omega arith))

pub returns-else-octets-le-MOST_OCTETS-clause-short : goal.returns-else-octets-le-MOST_OCTETS-clause-short
returns-else-octets-le-MOST_OCTETS-clause-short c = omega (arith, length-take 64 c.args.octets.now)
