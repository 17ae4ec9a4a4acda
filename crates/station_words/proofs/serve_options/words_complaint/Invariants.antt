use Rattle.std.proofs.Common.{◌≡◌, List, length, map}
use Rattle.std.specs.String.{string_bytes}
use Rattle.station_words.specs.Complaints.{Knows, StandInFront}
use Rattle.station_words.specs.ServeWords.{Setting}
use Rattle.station_words.proofs.serve_options.words_complaint.Given as goal

abbrev pub invariant-loop : goal.invariant-loop
invariant-loop l = (settings : List Setting) × StandInFront settings (map string_bytes l.given) (map string_bytes l.left) × Knows l.seen.given settings × (length settings ≡ l.counter)
