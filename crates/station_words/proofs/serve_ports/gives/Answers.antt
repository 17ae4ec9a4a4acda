use Rattle.std.proofs.Common.{[], sym}
use Rattle.station_words.specs.Complaints.{name_of}
use Rattle.station_words.proofs.Settings.{given_none, given_some}
use Rattle.station_words.proofs.serve_ports.gives.Goals as goal

pub returns-in-Some : goal.returns-in-Some
returns-in-Some c = λ settings are sound. sym (given_some (name_of c.args.option) _ [] settings (c.in-Some.ensures.some settings are sound))

pub returns-in-None : goal.returns-in-None
returns-in-None c = λ settings are sound. sym (given_none (name_of c.args.option) settings (c.in-None.ensures.none settings are sound))
