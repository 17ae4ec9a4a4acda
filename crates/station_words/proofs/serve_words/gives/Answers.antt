use Rattle.std.proofs.Common.{[], sym}
use Rattle.station_words.specs.ServeOptions.{dashed}
use Rattle.station_words.proofs.Settings.{given_none, given_some}
use Rattle.station_words.proofs.OptionServe.{told_never, told_once}
use Rattle.station_words.proofs.serve_words.gives.Goals as goal

pub returns-in-Some : goal.returns-in-Some
returns-in-Some c = λ words are.
    let once = told_once words c.args.matches.now c.args.name.now _ are (sym c.in-Some.ensures) in
    (once.0, once.1, sym (given_some (dashed c.args.name.now) _ [] once.0 once.2))

pub returns-in-None : goal.returns-in-None
returns-in-None c = λ words are.
    let never = told_never words c.args.matches.now c.args.name.now are (sym c.in-None.ensures) in
    (never.0, never.1, sym (given_none (dashed c.args.name.now) never.0 never.2))
