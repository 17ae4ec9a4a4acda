use Rattle.std.proofs.Common.{◌∷◌, codes, map, ap, refl, ◌∙◌}
use Rattle.std.specs.String.{string_bytes}
use Rattle.station_words.specs.Complaints.{after_file}
use Rattle.station_words.proofs.ComplaintSteps.{called_archive, follows}
use Rattle.station_words.proofs.complaint.archive_complaint.Goals as goal

pub returns-in-Some-first_of-clause-some : goal.returns-in-Some-first_of-clause-some
returns-in-Some-first_of-clause-some c = after_file refl c.in-Some.field-0-0.now _ (follows (codes "archive") _ (map string_bytes c.args.given.now) _ _ c.split_lenient.ensures (c.in-Some.ensures.some ∙ ap (λ l. c.in-Some.field-0-0.now ∷ l) c.in-Some-first_of.ensures.some))

pub returns-in-None-clause-none : goal.returns-in-None-clause-none
returns-in-None-clause-none c = called_archive _ _ _ c.in-Some.field-0-0.now c.split_lenient.ensures (c.in-Some.ensures.some ∙ ap (λ l. c.in-Some.field-0-0.now ∷ l) c.in-None.ensures.none)
