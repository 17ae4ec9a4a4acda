use Rattle.station_words.proofs.ServeKept.{keeps_serve}
use Rattle.station_words.proofs.laws.old_words_keep_their_meaning.Goals as goal

pub returns : goal.returns
returns c = keeps_serve
