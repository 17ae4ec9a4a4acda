use Rattle.std.proofs.Common.{codes, map, refl}
use Rattle.std.specs.String.{string_bytes}
use Rattle.station_words.specs.Complaints.{after_relay}
use Rattle.station_words.proofs.ComplaintSteps.{called_relay, follows}
use Rattle.station_words.proofs.complaint.relay_complaint.Goals as goal

pub returns-in-Some-clause-some : goal.returns-in-Some-clause-some
returns-in-Some-clause-some c = after_relay refl _ (follows (codes "relay") _ (map string_bytes c.args.given.now) _ _ c.split_lenient.ensures c.in-Some.ensures.some)

pub returns-in-None-clause-none : goal.returns-in-None-clause-none
returns-in-None-clause-none c = called_relay _ _ _ c.split_lenient.ensures c.in-None.ensures.none
