use Rattle.std.proofs.Common.{◌∙◌, sym}
use Rattle.station_words.specs.ServeWords.{IsAllowed, IsRounds}
use Rattle.station_words.proofs.ComplaintSteps.{none_of, some_of}
use Rattle.station_words.proofs.serve_options.takes.Goals as goal

pub returns-in-Rounds-clause-yes : goal.returns-in-Rounds-clause-yes
returns-in-Rounds-clause-yes c = λ some. let option = c.in-Rounds.is in rw option (some_of c.rounds_of.result (λ n. IsRounds c.args.value.now n) (sym c.is_some.ensures ∙ some) c.rounds_of.ensures.some)

pub returns-in-Rounds-clause-no : goal.returns-in-Rounds-clause-no
returns-in-Rounds-clause-no c = λ far. let option = c.in-Rounds.is in rw option (none_of c.rounds_of.result (λ n. IsRounds c.args.value.now n) (sym c.is_some.ensures ∙ far) c.rounds_of.ensures.none)

pub returns-in-FeedFrom-clause-yes : goal.returns-in-FeedFrom-clause-yes
returns-in-FeedFrom-clause-yes c = λ some. let option = c.in-FeedFrom.is in rw option (some_of c.allowed_of.result (λ l. IsAllowed c.args.value.now l) (sym c.is_some-in-FeedFrom.ensures ∙ some) c.allowed_of.ensures.some)

pub returns-in-FeedFrom-clause-no : goal.returns-in-FeedFrom-clause-no
returns-in-FeedFrom-clause-no c = λ far. let option = c.in-FeedFrom.is in rw option (none_of c.allowed_of.result (λ l. IsAllowed c.args.value.now l) (sym c.is_some-in-FeedFrom.ensures ∙ far) c.allowed_of.ensures.none)

pub returns-in-AskFrom-clause-yes : goal.returns-in-AskFrom-clause-yes
returns-in-AskFrom-clause-yes c = λ some. let option = c.in-AskFrom.is in rw option (some_of c.allowed_of-in-AskFrom.result (λ l. IsAllowed c.args.value.now l) (sym c.is_some-in-AskFrom.ensures ∙ some) c.allowed_of-in-AskFrom.ensures.some)

pub returns-in-AskFrom-clause-no : goal.returns-in-AskFrom-clause-no
returns-in-AskFrom-clause-no c = λ far. let option = c.in-AskFrom.is in rw option (none_of c.allowed_of-in-AskFrom.result (λ l. IsAllowed c.args.value.now l) (sym c.is_some-in-AskFrom.ensures ∙ far) c.allowed_of-in-AskFrom.ensures.none)
