use Rattle.std.proofs.Common.{◌≡◌, List, ℕ, map, ◌∙◌, sym, subst}
use Rattle.std.specs.List.{join_with_byte}
use Rattle.std.specs.String.{string_bytes}
use Rattle.bmp_specs.specs.Query.{space}
use Rattle.query_lang.specs.Asks.{ask_value}
use Rattle.station_words.specs.Words.{IsAsking}
use Rattle.station_words.proofs.Joining.{joined_texts}
use Rattle.station_words.proofs.words.read_asked.Goals as goal

pub returns-in-Some-clause-ok : goal.returns-in-Some-clause-ok
returns-in-Some-clause-ok c =
    let joined : c.as_bytes.result.now ≡ join_with_byte space (map string_bytes c.args.words.now) = c.as_bytes.ensures.value ∙ c.in-Ok.ensures.ok ∙ joined_texts string_bytes space c.args.words.now in
    subst (λ (line : List ℕ). IsAsking line (ask_value c.in-Some.ask)) joined c.in-Some.ensures.some

pub returns-in-Ok-clause-usage : goal.returns-in-Ok-clause-usage
returns-in-Ok-clause-usage c = λ usage ask is.
    let joined : c.as_bytes.result.now ≡ join_with_byte space (map string_bytes c.args.words.now) = c.as_bytes.ensures.value ∙ c.in-Ok.ensures.ok ∙ joined_texts string_bytes space c.args.words.now in
    c.in-None.ensures.none ask (subst (λ (line : List ℕ). IsAsking line ask) (sym joined) is)
