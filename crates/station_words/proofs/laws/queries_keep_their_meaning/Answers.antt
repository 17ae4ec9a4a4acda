use Rattle.station_words.proofs.Commands.{keeps_queries}
use Rattle.station_words.proofs.laws.queries_keep_their_meaning.Goals as goal

pub returns : goal.returns
returns c = keeps_queries
