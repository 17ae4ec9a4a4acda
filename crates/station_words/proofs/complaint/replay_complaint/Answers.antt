use Rattle.std.proofs.Common.{codes, inl, map, refl}
use Rattle.std.specs.String.{string_bytes}
use Rattle.station_words.proofs.ComplaintSteps.{follows}
use Rattle.station_words.proofs.complaint.replay_complaint.Goals as goal

pub returns : goal.returns
returns c = c.query_complaint.ensures _ (inl (follows (codes "replay") _ (map string_bytes c.args.given.now) _ _ c.split_lenient.ensures refl))
