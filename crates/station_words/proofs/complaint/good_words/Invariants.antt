use Rattle.std.proofs.Common.{map}
use Rattle.std.specs.String.{string_bytes}
use Rattle.station_words.specs.Complaints.{IsBestBeginning}
use Rattle.station_words.proofs.complaint.good_words.Given as goal

abbrev pub invariant-loop-count : goal.invariant-loop-count
invariant-loop-count l = IsBestBeginning l.good l.count (map string_bytes l.asked)
