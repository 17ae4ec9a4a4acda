use Rattle.std.proofs.Common.{◌∷◌, ap, map}
use Rattle.std.specs.String.{string_bytes}
use Rattle.station_words.specs.Complaints.{after_text}
use Rattle.station_words.proofs.ComplaintSteps.{called_text}
use Rattle.station_words.proofs.complaint.lone_complaint.Goals as goal

pub returns-in-Some-clause-some : goal.returns-in-Some-clause-some
returns-in-Some-clause-some c = λ named. after_text named (map string_bytes c.in-Some.field-0-1.now) (ap (λ l. c.args.command.now ∷ l) c.in-Some.ensures.some)

pub returns-in-None-clause-none : goal.returns-in-None-clause-none
returns-in-None-clause-none c = λ named. called_text c.args.command.now _ named c.in-None.ensures.none
