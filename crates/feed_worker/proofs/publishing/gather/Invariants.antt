use Rattle.std.proofs.Common.{◌≡◌, ◌++◌, ℕ, List}
use Rattle.bmp_specs.specs.Values.{EntryValue}
use Rattle.bmp_message.specs.StreamWalk.{HasReached, fed_of, rest_of}
use Rattle.rib_model.specs.Entries.{entry_values}
use Rattle.feed_worker.proofs.publishing.gather.Given as goal

abbrev pub invariant-loop-entries : goal.invariant-loop-entries
invariant-loop-entries g l = record {
  fed : fed_of l.walk ≡ fed_of l.initial.walk;
  reached : (fed : List ℕ) (given : List EntryValue) → HasReached g.B.BodyReading.meaning g.B.BodyReading.state fed given l.initial.walk → HasReached g.B.BodyReading.meaning g.B.BodyReading.state fed (given ++ entry_values l.entries) l.walk;
}

abbrev pub decreases-loop-entries : goal.decreases-loop-entries
decreases-loop-entries g l = rest_of l.walk
