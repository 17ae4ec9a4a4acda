-- A query of `bmp_specs` among the words of `replay` or `recall` has its replies, and no others.
use Rattle.std.proofs.Common.{◌≡◌, ◌↔◌, ℕ, Bool, List, [], ◌∷◌, codes, sym, ◌∙◌, subst, arith}
use Rattle.std.specs.List.{join_with_byte}
use Rattle.ask_specs.specs.Asking.{AskValue, plain}
use Rattle.ask_specs.specs.AskReply.{IsAskReply}
use Rattle.ask_specs.specs.Offer.{IsOfferedAsk}
use Rattle.ask_specs.proofs.OfferLaws.{offers_plain}
use Rattle.bmp_specs.specs.Query.{QueryValue, IsQuery, space}
use Rattle.bmp_specs.specs.QueryReply.{IsReply}
use Rattle.bmp_specs.specs.Values.{EntryValue}
use Rattle.query_lang.specs.Asks.{ask_value}
use Rattle.station_words.specs.Words.{IsCall, IsCommand, IsPlain}
use Rattle.station_words.specs.declared.words.Call.{Call}
use Rattle.station_words.specs.declared.words.Command.{Command}
use Rattle.station_words.specs.declared.words.Command.TheVariants.{Replay, Recall}
use Rattle.station_words.proofs.Commands.{same_plain}
use Rattle.station_top.specs.Kept.{KeepsRecalls, KeepsReplays}
use Rattle.station_top.specs.Station.{IsReplyTo}
use Rattle.station_top.proofs.OneCall.{named, number_in, number_of, recall_is, replay_is}

-- what is offered to the line of a query is that query
kept : (line : List ℕ) (query : QueryValue) (ask : AskValue) → IsQuery line query → IsOfferedAsk line ask → (entries : List EntryValue) (bytes : List ℕ) → IsAskReply ask (entries ∷ []) bytes ↔ IsReply query (entries ∷ []) bytes
kept line query ask is asks entries bytes =
    let same : ask ≡ plain query = (offers_plain line query ask is).0 asks in
    subst (λ (a : AskValue). IsAskReply a (entries ∷ []) bytes ↔ IsReply query (entries ∷ []) bytes) (sym same) (λ r. r, λ r. r)

replayed : (command : Command) (lenient : Bool) (first : List ℕ) (given asked : List (List ℕ)) (query : QueryValue) (entries : List EntryValue) (bytes : List ℕ) → number_of command ≡ 0 → IsCommand command lenient first given → IsPlain lenient given asked
    → IsQuery (join_with_byte space asked) query → IsReplyTo command entries bytes ↔ IsReply query (entries ∷ []) bytes
replayed (Replay ask) lenient first given asked query entries bytes e (first_is, (more, also, asks)) are is =
    let same = (same_plain lenient lenient given more asked also are).0 in
    kept (join_with_byte space asked) query (ask_value ask) is (subst (λ (ws : List (List ℕ)). IsOfferedAsk (join_with_byte space ws) (ask_value ask)) same asks.is_offered) entries bytes
replayed command lenient first given asked query entries bytes e is are q = absurd (omega (arith, e))

recalled : (command : Command) (lenient : Bool) (first file : List ℕ) (given asked : List (List ℕ)) (query : QueryValue) (entries : List EntryValue) (bytes : List ℕ) → number_of command ≡ 7 → IsCommand command lenient first given → IsPlain lenient given (file ∷ asked)
    → IsQuery (join_with_byte space asked) query → IsReplyTo command entries bytes ↔ IsReply query (entries ∷ []) bytes
recalled (Recall ask) lenient first file given asked query entries bytes e (first_is, (other, (more, also, asks))) are is =
    let both : other ∷ asks.asked ≡ file ∷ asked = sym asks.spelled ∙ (same_plain lenient lenient given more (file ∷ asked) also are).0 in
    let same : asks.asked ≡ asked = cc both in
    kept (join_with_byte space asked) query (ask_value ask) is (subst (λ (ws : List (List ℕ)). IsOfferedAsk (join_with_byte space ws) (ask_value ask)) same asks.is_asking.is_offered) entries bytes
recalled command lenient first file given asked query entries bytes e is are q = absurd (omega (arith, e))

-- the number of the command whose name is first among the words of a call
number_is : (call : Call) (name : List ℕ) (given : List (List ℕ)) → IsCall call (name ∷ given) → (number_in name ≡ number_of call.command) × IsCommand call.command call.lenient name given
number_is call name given is =
    let both : is.first ∷ is.given ≡ name ∷ given = sym is.spelled in
    let first : is.first ≡ name = cc in
    let same : is.given ≡ given = cc in
    let command = subst (λ (w : List ℕ). IsCommand call.command call.lenient w given) first (subst (λ (ws : List (List ℕ)). IsCommand call.command call.lenient is.first ws) same is.is_command) in
    (named call.command call.lenient name given command, command)

pub keeps_replays : KeepsReplays
keeps_replays call given asked query entries bytes is are q =
    let named_so = number_is call (codes "replay") given is in
    replayed call.command call.lenient (codes "replay") given asked query entries bytes (sym named_so.0 ∙ replay_is) named_so.1 are q

pub keeps_recalls : KeepsRecalls
keeps_recalls call file given asked query entries bytes is are q =
    let named_so = number_is call (codes "recall") given is in
    recalled call.command call.lenient (codes "recall") file given asked query entries bytes (sym named_so.0 ∙ recall_is) named_so.1 are q
