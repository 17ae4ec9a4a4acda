use Rattle.station_top.proofs.DrillOne.{text_one}
use Rattle.station_top.proofs.law.drills_have_one_text.Goals as goal

pub returns : goal.returns
returns c = text_one
