use Rattle.std.proofs.Common.{◌≡◌, [], List, length, map}
use Rattle.std.specs.String.{string_bytes}
use Rattle.station_words.specs.Complaints.{StandInFront, name_of}
use Rattle.station_words.specs.ServeWords.{Setting, values_of}
use Rattle.station_words.proofs.serve_options.value_of.Given as goal

abbrev pub invariant-loop : goal.invariant-loop
invariant-loop l = (front : List Setting) × StandInFront front (map string_bytes l.given) (map string_bytes l.left) × (values_of (name_of l.option) front ≡ []) × (length front ≡ l.counter)
