-- The turns of dialogues: how each line was taken, and what it was answered of.
use Rattle.std.proofs.Common.{◌≡◌, inl, inr, ℕ, ◌≤◌, Bool, List, [], ◌∷◌, length, refl, ap, subst, arith}
use Rattle.std.specs.List.{Contains}
use Rattle.ask_specs.specs.Asking.{AskValue, plain}
use Rattle.ask_specs.specs.Offer.{IsOfferedAsk}
use Rattle.ask_specs.proofs.OfferLaws.{offers_one, offers_plain}
use Rattle.bmp_specs.specs.Query.{quit}
use Rattle.bmp_specs.proofs.ListedOne.{contains_cases}
use Rattle.cut_publisher.specs.History.{Begins, revision}
use Rattle.ask_session.specs.declared.close.Close.{Close}
use Rattle.ask_session.specs.Replies.{History, Heard, too_long, unknown, asked, over, IsHeard, IsAnswer}
use Rattle.ask_session.specs.Dialogue.{Turn, Talks, IsTurnOn}
use Rattle.ask_session.specs.Sessions.{AsksGetReplies, QueriesKeepReplies}

-- a turn of a dialogue: its line was taken so, and answered on a front of the history
pub record Answered (lanes : ℕ) (history : History) (turn : Turn) : Type 0 where
  pub heard : IsHeard turn.line turn.heard
  pub seen : Begins turn.seen history
  pub answered : IsAnswer lanes turn.seen turn.heard turn.reply

turn_answered : (lanes : ℕ) (close : Close) (ended : Bool) (history : History) (turns : List Turn) (least : ℕ) (bytes text : List ℕ) (turn : Turn) → Talks lanes close ended history least bytes turns text → Contains turns turn → Answered lanes history turn
turn_answered lanes close ended history [] least bytes text turn t has = absurd (omega (arith, has.1))
turn_answered lanes close ended history (x ∷ xs) least bytes text turn (rest, back, takes, end) has = elim (contains_cases x xs turn has) [
  | inl is ↦ subst (Answered lanes history) is (record { heard = takes.heard; seen = takes.seen; answered = takes.answered })
  | inr more ↦ elim end [
    | inl (ends, none, empty) ↦ let gone : Contains [] turn = subst (λ (l : List Turn). Contains l turn) none more in absurd (omega (arith, gone.1))
    | inr (going, talks) ↦ turn_answered lanes close ended history xs (revision x.seen) rest back turn talks more
  ]
]

pub turn_on : (lanes : ℕ) (history : History) (turn : Turn) → IsTurnOn lanes history turn → Answered lanes history turn
turn_on lanes history turn t = turn_answered lanes t.close t.ended history t.dialogue.turns t.least t.bytes t.text turn t.dialogue.talks t.stands

-- what asks something offered, and no end, is heard as asking that, and nothing else
offered_heard : (text : List ℕ) (ask : AskValue) (heard : Heard) → IsOfferedAsk text ask → length text ≤ 1024 → (ask ≡ plain quit → ⊥) → IsHeard text heard → heard ≡ asked ask
offered_heard text ask too_long is few other h = absurd (omega (arith, few, h))
offered_heard text ask unknown is few other h = absurd (h.1 ask is)
offered_heard text ask (asked heard) is few other h = ap asked (offers_one text heard ask h.1 is)
offered_heard text ask over is few other h = absurd (other (offers_one text ask (plain quit) is h.1))

pub get_replies : AsksGetReplies
get_replies lanes history turn ask on is few other =
    let a = turn_on lanes history turn on in
    let heard = offered_heard turn.line ask turn.heard is few other a.heard in
    (heard, subst (λ (h : Heard). IsAnswer lanes turn.seen h turn.reply) heard a.answered)

pub keep_replies : QueriesKeepReplies
keep_replies lanes history turn query on is few other =
    get_replies lanes history turn (plain query) on ((offers_plain turn.line query (plain query) is).1 refl) few (λ same. other (cc same))
