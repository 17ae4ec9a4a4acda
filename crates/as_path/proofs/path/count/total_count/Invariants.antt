use Rattle.std.proofs.Common.{◌≡◌, ◌*◌, ◌≤◌, take}
use Rattle.bmp_specs.specs.MergedPath.{path_count}
use Rattle.as_path.proofs.path.count.total_count.Given as goal

abbrev pub invariant-loop-segment : goal.invariant-loop-segment
invariant-loop-segment l = record {
  total_is : l.total ≡ path_count (take l.segment-index l.segments);
  bound : l.total ≤ 0xFFFF_FFFF_FFFF_FFFF * l.segment-index;
}
