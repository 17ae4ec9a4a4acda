use Rattle.station_words.proofs.ComplaintLaws.{no_check_call}
use Rattle.station_words.proofs.laws.checks_are_no_call.Goals as goal

pub returns : goal.returns
returns c = no_check_call
