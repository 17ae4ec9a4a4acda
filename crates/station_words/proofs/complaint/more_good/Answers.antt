use Rattle.std.proofs.Common.{Err, List, ℕ, ap, inl, inr, map, subst, sym, ◌∙◌, arith}
use Rattle.std.specs.List.{join_with_byte}
use Rattle.std.specs.String.{string_bytes}
use Rattle.std.proofs.lemmas.List.{take-map}
use Rattle.bmp_specs.specs.Query.{space}
use Rattle.query_lang.specs.Asks.{ask_value}
use Rattle.station_words.specs.Complaints.{AreFrontWords}
use Rattle.station_words.specs.Words.{IsAsking}
use Rattle.station_words.proofs.ComplaintSteps.{none_begins, still_best}
use Rattle.station_words.proofs.complaint.more_good.Goals as goal

pub returns-in-Ok : goal.returns-in-Ok
returns-in-Ok c = (
  inr (inr (ask_value c.in-Ok.field-0, subst (λ (l : List (List ℕ)). IsAsking (join_with_byte space l) (ask_value c.in-Ok.field-0)) (sym (take-map string_bytes c.args.count c.args.asked.now)) c.in-Ok.ensures.ok)),
  λ more below above. absurd (omega (arith, below, above)),
)

pub returns-in-Err-Usage : goal.returns-in-Err-Usage
returns-in-Err-Usage c =
    still_best (map string_bytes c.args.asked.now) c.args.good c.args.count c.requires.best (none_begins c.args.count (map string_bytes c.args.asked.now) (λ front. cc (c.are_front_words.ensures.1 (subst AreFrontWords (take-map string_bytes c.args.count c.args.asked.now) front), c.if-are_front_words.false))
    (λ ask asking. c.in-Err-Usage.ensures.usage (ap Err c.in-Err-Usage.field-0-is) ask (subst (λ (l : List (List ℕ)). IsAsking (join_with_byte space l) ask) (take-map string_bytes c.args.count c.args.asked.now) asking)))

pub returns-then-are_front_words : goal.returns-then-are_front_words
returns-then-are_front_words c = (inr (inl (subst AreFrontWords (sym (take-map string_bytes c.args.count c.args.asked.now)) (c.are_front_words.ensures.0 c.if-are_front_words.true))), λ more below above. absurd (omega (arith, below, above)))
