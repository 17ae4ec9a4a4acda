-- Clients of a station that served keep exact copies of its lanes' rows.
use Rattle.std.proofs.Common.{inl, inr, ℕ, List, [], ◌∷◌, subst}
use Rattle.ask_specs.specs.Lives.{LivesAnnounceOfUp}
use Rattle.bmp_specs.specs.Meaning.{Meaning}
use Rattle.cut_publisher.specs.History.{Site, revision}
use Rattle.ask_session.specs.Dialogue.{Turn, IsTurnOn}
use Rattle.ask_session.specs.Replies.{History}
use Rattle.ask_session.specs.Sessions.{Session}
use Rattle.ask_session.proofs.CopyLaws.{copies_stay, turns_tell}
use Rattle.station_run.specs.Copied.{ClientsAreTold, CopiesAreExact, IsTurnAmong, IsTurnOfAskers}
use Rattle.station_run.specs.Served.{AreAskRuns, AreOnHistory, AskRun}
use Rattle.station_run.proofs.SeenLanes.{lanes_tellable}

turn_among : (lanes : ℕ) (history seen : History) (writes : ℕ) (sessions : List Session) (on : AreOnHistory lanes history seen writes sessions) (turn : Turn) → IsTurnAmong lanes history seen writes sessions on turn → IsTurnOn lanes history turn
turn_among lanes history seen writes [] on turn has = absurd has
turn_among lanes history seen writes (s ∷ ss) (first, rest) turn (inl has) = record { close = s.close; ended = first.ended; least = revision seen; bytes = s.input.bytes; text = first.replies; dialogue = first.talk; stands = has }
turn_among lanes history seen writes (s ∷ ss) (first, rest) turn (inr more) = turn_among lanes history s.seen s.writes ss rest turn more

turn_of : (rounds : ℕ) (site : Site) (history : History) (rs : List AskRun) (are : AreAskRuns rounds site history rs) (turn : Turn) → IsTurnOfAskers rounds site history rs are turn → IsTurnOn site.lanes history turn
turn_of rounds site history [] are turn has = absurd has
turn_of rounds site history (r ∷ rs) (first, rest) turn (inl has) = turn_among site.lanes history [] r.first.faults first.ask_serves.served.sessions first.on_history turn has
turn_of rounds site history (r ∷ rs) (first, rest) turn (inr more) = turn_of rounds site history rs rest turn more

pub clients_told : (meaning : Meaning) → LivesAnnounceOfUp meaning → ClientsAreTold meaning
clients_told meaning of_up rounds lanes askers runs ask_runs cut feeds asks rev served lane below few full turn copy ask has short offered asks_it =
    let history = served.ending.history in
    let on = subst (λ (n : ℕ). IsTurnOn n history turn) served.wide (turn_of rounds served.site history ask_runs served.asks_are turn has) in
    turns_tell full lanes lane history turn copy ask below on (lanes_tellable meaning of_up rounds lanes askers runs ask_runs cut feeds asks rev served lane below few) short offered asks_it

pub copies_exact : (meaning : Meaning) → LivesAnnounceOfUp meaning → CopiesAreExact meaning
copies_exact meaning of_up rounds lanes askers runs ask_runs cut feeds asks rev served lane below few first second copy kept told one two le exact tells keeps =
    let history = served.ending.history in
    let on = λ (turn : Turn) (has : IsTurnOfAskers rounds served.site history ask_runs served.asks_are turn). subst (λ (n : ℕ). IsTurnOn n history turn) served.wide (turn_of rounds served.site history ask_runs served.asks_are turn has) in
    copies_stay lanes lane history first second copy kept told (on first one) (on second two) le (lanes_tellable meaning of_up rounds lanes askers runs ask_runs cut feeds asks rev served lane below few) exact tells keeps
