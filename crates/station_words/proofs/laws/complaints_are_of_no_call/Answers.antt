use Rattle.station_words.proofs.ComplaintLaws.{of_no_call}
use Rattle.station_words.proofs.laws.complaints_are_of_no_call.Goals as goal

pub returns : goal.returns
returns c = of_no_call
