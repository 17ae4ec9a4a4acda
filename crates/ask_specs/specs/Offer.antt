-- What the station offers of the wider language: all of it.
use Rattle.std.specs.Prelude.{◌≡◌, ◌↔◌, ℕ, List}
use Rattle.bmp_specs.specs.Query.{QueryValue, IsQuery}
use Rattle.ask_specs.specs.Asking.{AskValue, plain, IsAsk}

-- nothing is left out
abbrev pub IsOffered : AskValue → Type 0
IsOffered ask = Unit {0}

-- the line asks this, and it is offered
pub record IsOfferedAsk (line : List ℕ) (ask : AskValue) : Type 0 where
  pub is_ask : IsAsk line ask
  pub is_offered : IsOffered ask

-- a query of `bmp_specs` is asked
abbrev pub IsPlainAsk : AskValue → Type 0
IsPlainAsk (plain query) = Unit {0}
IsPlainAsk _ = ⊥

-- A plain line asks that query among all that is offered, and nothing else.
abbrev pub OffersPlain : Type 0
OffersPlain = (line : List ℕ) (query : QueryValue) (ask : AskValue) → IsQuery line query → IsOfferedAsk line ask ↔ (ask ≡ plain query)

-- a line asks one thing at most that is offered
abbrev pub OffersOne : Type 0
OffersOne = (line : List ℕ) (a b : AskValue) → IsOfferedAsk line a → IsOfferedAsk line b → a ≡ b

-- what a line asks is offered
abbrev pub OffersAll : Type 0
OffersAll = (line : List ℕ) (ask : AskValue) → IsOfferedAsk line ask ↔ IsAsk line ask
