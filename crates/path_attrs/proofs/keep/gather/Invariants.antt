use Rattle.std.proofs.Common.{length}
use Rattle.path_attrs.proofs.Gathering.{Gathers}
use Rattle.path_attrs.proofs.Keeping.{Keeps}
use Rattle.path_attrs.proofs.keep.gather.Given as goal

abbrev pub invariant-loop-part : goal.invariant-loop-part
invariant-loop-part l = record {
  gathers : Gathers l.field l.rest l.values;
  keeps : Keeps l.field l.others l.rest;
}

abbrev pub decreases-loop-part : goal.decreases-loop-part
decreases-loop-part l = length l.rest
