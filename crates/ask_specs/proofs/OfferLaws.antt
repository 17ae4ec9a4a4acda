-- What is offered of the wider language keeps the laws of all of it, since it is all of it.
use Rattle.std.proofs.Common.{refl, sym, subst}
use Rattle.ask_specs.specs.Asking.{plain}
use Rattle.ask_specs.specs.Offer.{IsOfferedAsk, OffersAll, OffersOne, OffersPlain}
use Rattle.ask_specs.proofs.AskLaws.{asks_one, conservative}
use Rattle.ask_specs.proofs.QueryOne.{asks_one_query}

pub offers_one : OffersOne
offers_one line a b p q = asks_one asks_one_query line a b p.is_ask q.is_ask

pub offers_plain : OffersPlain
offers_plain line query ask is = (
  λ offered. (conservative asks_one_query line query ask is).0 offered.is_ask,
  λ same. subst (IsOfferedAsk line) (sym same) (record { is_ask = (conservative asks_one_query line query (plain query) is).1 refl; is_offered = tt }),
)

pub offers_all : OffersAll
offers_all line ask = (λ offered. offered.is_ask, λ is. record { is_ask = is; is_offered = tt })
