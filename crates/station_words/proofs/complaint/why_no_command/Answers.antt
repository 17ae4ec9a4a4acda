use Rattle.std.proofs.Common.{map}
use Rattle.std.specs.String.{string_bytes}
use Rattle.station_words.specs.declared.complaint.Complaint.TheVariants.{NoWords}
use Rattle.station_words.proofs.ComplaintLaws.{found_no_call, of_no_call}
use Rattle.station_words.proofs.ComplaintSteps.{at_words}
use Rattle.station_words.proofs.complaint.why_no_command.Goals as goal

pub returns-in-Some-clause-none_read : goal.returns-in-Some-clause-none_read
returns-in-Some-clause-none_read c = found_no_call c.complaint_at.result (map string_bytes c.args.words.now) (at_words c.complaint_at.result (map string_bytes c.args.words.now) _ c.in-Some.ensures.some c.complaint_at.ensures.some)

pub returns-in-None-clause-none_read : goal.returns-in-None-clause-none_read
returns-in-None-clause-none_read c = of_no_call NoWords (map string_bytes c.args.words.now) c.in-None.ensures.none
