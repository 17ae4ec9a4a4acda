use Rattle.std.proofs.Common.{◌∷◌, codes, inr, map, ap, refl, sym, ◌∙◌}
use Rattle.std.specs.String.{string_bytes}
use Rattle.station_words.specs.Complaints.{no_question}
use Rattle.station_words.proofs.ComplaintSteps.{follows, no_texts}
use Rattle.station_words.proofs.complaint.recall_complaint.Goals as goal

pub returns-then-is_empty : goal.returns-then-is_empty
returns-then-is_empty c =
    no_question refl c.in-Some.field-0-0.now
    (follows (codes "recall") _ (map string_bytes c.args.given.now) _ _ c.split_lenient.ensures (c.in-Some.ensures.some ∙ ap (λ l. c.in-Some.field-0-0.now ∷ l) (no_texts string_bytes c.in-Some.asked.now (sym c.if-is_empty.true ∙ c.is_empty.ensures))))

pub returns : goal.returns
returns c = c.query_complaint.ensures _ (inr (c.in-Some.field-0-0.now, follows (codes "recall") _ (map string_bytes c.args.given.now) _ _ c.split_lenient.ensures c.in-Some.ensures.some))
