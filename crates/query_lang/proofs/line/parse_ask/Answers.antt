use Rattle.std.proofs.Common.{◌≡◌, ℕ, List, Option, Some, None, sym, ap}
use Rattle.std.specs.Prelude.{IfSome, IfNone}
use Rattle.ask_specs.specs.Asking.{AskValue, plain}
use Rattle.ask_specs.specs.Offer.{IsOfferedAsk}
use Rattle.ask_specs.proofs.OfferLaws.{offers_one, offers_plain}
use Rattle.query_lang.specs.Asks.{ask_value}
use Rattle.query_lang.specs.Queries.{query_value}
use Rattle.query_lang.specs.declared.ask.Ask.{Ask}
use Rattle.query_lang.proofs.AskWords.{asks_behind, behind_offered}
use Rattle.query_lang.proofs.line.parse_ask.Goals as goal

some_asked : (r : Option Ask) (A B : AskValue → Type 0) → ((v : AskValue) → A v → B v) → IfSome r (λ a. A (ask_value a)) → IfSome r (λ a. B (ask_value a))
some_asked None A B gives is = tt
some_asked (Some a) A B gives is = gives (ask_value a) is

none_asked : (r : Option Ask) (A B : AskValue → Type 0) → ((v : AskValue) → B v → A v) → IfNone r ((v : AskValue) → A v → ⊥) → IfNone r ((v : AskValue) → B v → ⊥)
none_asked (Some a) A B gives none = tt
none_asked None A B gives none = λ v is. none v (gives v is)

-- what is offered is the one ask
only_some : (line : List ℕ) (r : Option Ask) → IfSome r (λ a. IsOfferedAsk line (ask_value a)) → IfSome r (λ a. (v : AskValue) → IsOfferedAsk line v → v ≡ ask_value a)
only_some line None is = tt
only_some line (Some a) is = λ v other. offers_one line v (ask_value a) other is

pub returns-in-Some-clause-only : goal.returns-in-Some-clause-only
returns-in-Some-clause-only c v is = (offers_plain c.args.line.now (query_value c.in-Some.query) v c.in-Some.ensures.some).0 is

pub returns-in-Some-clause-keeps : goal.returns-in-Some-clause-keeps
returns-in-Some-clause-keeps c v is = ap plain (sym (c.in-Some.ensures.only v is))

pub returns-clause-some : goal.returns-clause-some
returns-clause-some c =
    some_asked c.asked_behind.result _ _ (behind_offered c.args.line.now _ _ _ _ c.take_first-steps.ensures c.take_first-full.ensures c.in_default.ensures.none) c.asked_behind.ensures.some

pub returns-clause-only : goal.returns-clause-only
returns-clause-only c =
    only_some c.args.line.now c.asked_behind.result
    (some_asked c.asked_behind.result _ _ (behind_offered c.args.line.now _ _ _ _ c.take_first-steps.ensures c.take_first-full.ensures c.in_default.ensures.none) c.asked_behind.ensures.some)

pub returns-clause-none : goal.returns-clause-none
returns-clause-none c =
    none_asked c.asked_behind.result _ _ (asks_behind c.args.line.now _ _ _ _ c.take_first-steps.ensures c.take_first-full.ensures c.in_default.ensures.none) c.asked_behind.ensures.none

pub returns-clause-keeps : goal.returns-clause-keeps
returns-clause-keeps c v is = absurd (c.in_default.ensures.none v is)
