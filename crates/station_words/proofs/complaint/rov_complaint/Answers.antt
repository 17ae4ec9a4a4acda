use Rattle.std.proofs.Common.{◌∷◌, codes, map, ap, refl, ◌∙◌}
use Rattle.std.specs.String.{string_bytes}
use Rattle.station_words.specs.Complaints.{after_prefix, for_prefix, no_prefix}
use Rattle.station_words.proofs.ComplaintSteps.{called_rov, follows}
use Rattle.station_words.proofs.complaint.rov_complaint.Goals as goal

pub returns-in_default-first_of-clause-some : goal.returns-in_default-first_of-clause-some
returns-in_default-first_of-clause-some c = no_prefix refl c.in-Some.field-0-0.now (follows (codes "rov") _ (map string_bytes c.args.given.now) _ _ c.split_lenient.ensures (c.in-Some.ensures.some ∙ ap (λ l. c.in-Some.field-0-0.now ∷ l) c.in_default-first_of.ensures.none))

pub returns-in_default-read_prefix-clause-some : goal.returns-in_default-read_prefix-clause-some
returns-in_default-read_prefix-clause-some c =
    for_prefix c.in-Some.field-0-0.now _
    (follows (codes "rov") _ (map string_bytes c.args.given.now) _ _ c.split_lenient.ensures (c.in-Some.ensures.some ∙ ap (λ l. c.in-Some.field-0-0.now ∷ l) c.in-Some-first_of.ensures.some))
    c.in_default-read_prefix.ensures.none

pub returns-in-Some-first_of-2-clause-some : goal.returns-in-Some-first_of-2-clause-some
returns-in-Some-first_of-2-clause-some c =
    after_prefix refl c.in-Some.field-0-0.now c.in-Some-first_of.text.now _ (follows (codes "rov") _ (map string_bytes c.args.given.now) _ _ c.split_lenient.ensures (c.in-Some.ensures.some ∙ ap (λ l. c.in-Some.field-0-0.now ∷ l) (c.in-Some-first_of.ensures.some ∙ ap (λ l. c.in-Some-first_of.text.now ∷ l) c.in-Some-first_of-2.ensures.some)))
    _ c.in-Some-read_prefix.ensures.some

pub returns-in-None-clause-none : goal.returns-in-None-clause-none
returns-in-None-clause-none c =
    called_rov _ _ _ c.in-Some.field-0-0.now c.in-Some-first_of.text.now _ c.split_lenient.ensures
    (c.in-Some.ensures.some ∙ ap (λ l. c.in-Some.field-0-0.now ∷ l) (c.in-Some-first_of.ensures.some ∙ ap (λ l. c.in-Some-first_of.text.now ∷ l) c.in-None.ensures.none))
    c.in-Some-read_prefix.ensures.some
