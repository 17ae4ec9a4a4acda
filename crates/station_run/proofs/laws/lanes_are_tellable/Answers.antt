use Rattle.bmp_specs.specs.LenientBody.{lenient}
use Rattle.bmp_specs.specs.MessageEffects.{strict}
use Rattle.ask_specs.proofs.LiveLaws.{lenient_lives, strict_lives}
use Rattle.station_run.proofs.SeenLanes.{lanes_tellable}
use Rattle.station_run.proofs.laws.lanes_are_tellable.Goals as goal

pub returns : goal.returns
returns c = (lanes_tellable strict strict_lives, lanes_tellable lenient lenient_lives)
