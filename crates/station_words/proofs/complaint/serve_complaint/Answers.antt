use Rattle.std.proofs.Common.{map}
use Rattle.std.specs.String.{string_bytes}
use Rattle.station_words.specs.Complaints.{AreServe}
use Rattle.station_words.proofs.ComplaintSteps.{none_then, serve_found, served_call}
use Rattle.station_words.proofs.complaint.serve_complaint.Goals as goal

pub returns-in-None-clause-some : goal.returns-in-None-clause-some
returns-in-None-clause-some c = serve_found c.ports_complaint.result (map string_bytes c.args.given.now) (c.ports_complaint.ensures.some c.in-None.ensures.none)

pub returns-in-None-clause-none : goal.returns-in-None-clause-none
returns-in-None-clause-none c = none_then c.ports_complaint.result (AreServe (map string_bytes c.args.given.now)) _ (served_call (map string_bytes c.args.given.now)) (c.ports_complaint.ensures.none c.in-None.ensures.none)
