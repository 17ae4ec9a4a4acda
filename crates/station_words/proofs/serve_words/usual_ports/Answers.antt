use Rattle.station_words.proofs.Settings.{usual_by}
use Rattle.station_words.proofs.serve_words.usual_ports.Goals as goal

pub returns : goal.returns
returns c = λ words are.
    usual_by words _ _ _ _ _ _ (c.gives.ensures words are) (c.gives-2.ensures words are) (c.gives-3.ensures words are) (c.gives-4.ensures words are) (c.gives-5.ensures words are) c.is_short.ensures
