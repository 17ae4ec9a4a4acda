use Rattle.std.proofs.Common.{◌∷◌, ap, refl, ◌∙◌, codes}
use Rattle.station_words.specs.Complaints.{after_numbers, for_lanes, for_messages, for_seed, no_lanes, no_messages, no_seed}
use Rattle.station_words.proofs.ComplaintSteps.{called_drill}
use Rattle.station_words.proofs.complaint.drill_complaint.Goals as goal

pub returns-in_default-clause-some : goal.returns-in_default-clause-some
returns-in_default-clause-some c = no_seed refl (ap (λ l. codes "drill" ∷ l) c.in_default.ensures.none)

pub returns-then-not-is_number-clause-some : goal.returns-then-not-is_number-clause-some
returns-then-not-is_number-clause-some c = for_seed _ (ap (λ l. codes "drill" ∷ l) c.in-Some.ensures.some) (c.is_number.ensures.no c.if-not-is_number.true)

pub returns-in_default-first_of-clause-some : goal.returns-in_default-first_of-clause-some
returns-in_default-first_of-clause-some c = no_lanes refl c.in-Some.seed.now (ap (λ l. codes "drill" ∷ l) (c.in-Some.ensures.some ∙ ap (λ l. c.in-Some.seed.now ∷ l) c.in_default-first_of.ensures.none)) (c.is_number.ensures.yes c.if-not-is_number.false)

pub returns-then-not-is_number-2-clause-some : goal.returns-then-not-is_number-2-clause-some
returns-then-not-is_number-2-clause-some c =
    for_lanes c.in-Some.seed.now _ (ap (λ l. codes "drill" ∷ l) (c.in-Some.ensures.some ∙ ap (λ l. c.in-Some.seed.now ∷ l) c.in-Some-first_of.ensures.some)) (c.is_number.ensures.yes c.if-not-is_number.false) (c.is_number-2.ensures.no c.if-not-is_number-2.true)

pub returns-in_default-first_of-2-clause-some : goal.returns-in_default-first_of-2-clause-some
returns-in_default-first_of-2-clause-some c =
    no_messages refl c.in-Some.seed.now c.in-Some-first_of.lanes.now (ap (λ l. codes "drill" ∷ l) (c.in-Some.ensures.some ∙ ap (λ l. c.in-Some.seed.now ∷ l) (c.in-Some-first_of.ensures.some ∙ ap (λ l. c.in-Some-first_of.lanes.now ∷ l) c.in_default-first_of-2.ensures.none)))
    (c.is_number.ensures.yes c.if-not-is_number.false) (c.is_number-2.ensures.yes c.if-not-is_number-2.false)

pub returns-then-not-is_number-3-clause-some : goal.returns-then-not-is_number-3-clause-some
returns-then-not-is_number-3-clause-some c =
    for_messages c.in-Some.seed.now c.in-Some-first_of.lanes.now _ (ap (λ l. codes "drill" ∷ l) (c.in-Some.ensures.some ∙ ap (λ l. c.in-Some.seed.now ∷ l) (c.in-Some-first_of.ensures.some ∙ ap (λ l. c.in-Some-first_of.lanes.now ∷ l) c.in-Some-first_of-2.ensures.some)))
    (c.is_number.ensures.yes c.if-not-is_number.false) (c.is_number-2.ensures.yes c.if-not-is_number-2.false) (c.is_number-3.ensures.no c.if-not-is_number-3.true)

pub returns-in-Some-first_of-3-clause-some : goal.returns-in-Some-first_of-3-clause-some
returns-in-Some-first_of-3-clause-some c =
    after_numbers refl c.in-Some.seed.now c.in-Some-first_of.lanes.now c.in-Some-first_of-2.messages.now _ (ap (λ l. codes "drill" ∷ l) (c.in-Some.ensures.some ∙ ap (λ l. c.in-Some.seed.now ∷ l) (c.in-Some-first_of.ensures.some ∙ ap (λ l. c.in-Some-first_of.lanes.now ∷ l) (c.in-Some-first_of-2.ensures.some ∙ ap (λ l. c.in-Some-first_of-2.messages.now ∷ l) c.in-Some-first_of-3.ensures.some))))
    (c.is_number.ensures.yes c.if-not-is_number.false) (c.is_number-2.ensures.yes c.if-not-is_number-2.false) (c.is_number-3.ensures.yes c.if-not-is_number-3.false)

pub returns-in-None-clause-none : goal.returns-in-None-clause-none
returns-in-None-clause-none c =
    called_drill _ c.in-Some.seed.now c.in-Some-first_of.lanes.now c.in-Some-first_of-2.messages.now
    (c.in-Some.ensures.some ∙ ap (λ l. c.in-Some.seed.now ∷ l) (c.in-Some-first_of.ensures.some ∙ ap (λ l. c.in-Some-first_of.lanes.now ∷ l) (c.in-Some-first_of-2.ensures.some ∙ ap (λ l. c.in-Some-first_of-2.messages.now ∷ l) c.in-None.ensures.none)))
    (c.is_number.ensures.yes c.if-not-is_number.false) (c.is_number-2.ensures.yes c.if-not-is_number-2.false) (c.is_number-3.ensures.yes c.if-not-is_number-3.false)
