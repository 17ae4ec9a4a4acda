use Rattle.std.proofs.Common.{◌≡◌, List, ℕ, map, subst, sym, ◌∙◌}
use Rattle.std.specs.List.{join_with_byte}
use Rattle.std.specs.String.{string_bytes}
use Rattle.bmp_specs.specs.Query.{space}
use Rattle.ask_specs.specs.Asking.{AskValue}
use Rattle.ask_specs.specs.Offer.{IsOfferedAsk}
use Rattle.query_lang.specs.Asks.{ask_value}
use Rattle.station_words.proofs.Joining.{joined_texts}
use Rattle.station_words.proofs.complaint.query_complaint.Goals as goal

pub returns-in-Some : goal.returns-in-Some
returns-in-Some c = λ words are.
    let line = join_with_byte space (map string_bytes c.args.asked.now) in
    let joined : c.as_bytes.result.now ≡ line = c.as_bytes.ensures.value ∙ c.in-Ok.ensures.ok ∙ joined_texts string_bytes space c.args.asked.now in (
      _,
      are,
      subst (λ (a : AskValue). IsOfferedAsk line a) c.in-None-with_reply.ensures.none (subst (λ (text : List ℕ). IsOfferedAsk text (ask_value c.in-Some.ask)) joined c.in-Some.ensures.some),
      λ ask is. c.in-Some.ensures.only ask (subst (λ (text : List ℕ). IsOfferedAsk text ask) (sym joined) is) ∙ c.in-None-with_reply.ensures.none,
    )

pub returns-in-Some-good_words : goal.returns-in-Some-good_words
returns-in-Some-good_words c = λ words are.
    let joined : c.as_bytes.result.now ≡ join_with_byte space (map string_bytes c.args.asked.now) = c.as_bytes.ensures.value ∙ c.in-Ok.ensures.ok ∙ joined_texts string_bytes space c.args.asked.now in
    (are, λ ask is. c.in-None.ensures.none ask (subst (λ (text : List ℕ). IsOfferedAsk text ask) (sym joined) is), c.in-Some-good_words.ensures)
