use Rattle.station_words.proofs.Settings.{is_loopback}
use Rattle.station_words.proofs.serve_words.home.Goals as goal

pub returns : goal.returns
returns c = is_loopback c.v4.result c.v4.ensures.family c.v4.ensures.octets
