use Rattle.std.proofs.Common.{◌≡◌, ◌+◌, ◌*◌, ◌≤◌, ◌++◌, map, take}
use Rattle.bmp_specs.specs.NumberText.{number_text}
use Rattle.bmp_specs.specs.RouteLine.{comma}
use Rattle.bmp_specs.specs.Values.{OtherValue}
use Rattle.reply_text.specs.Pieces.{behind}
use Rattle.reply_text.proofs.line.further_codes.Given as goal

abbrev pub invariant-loop-other : goal.invariant-loop-other
invariant-loop-other l = record {
  whole : take l.end l.line ≡ take l.at l.fn.line ++ behind comma (map (λ (other : OtherValue). number_text other.code) (take l.other-index l.others));
  short : l.end ≤ l.at + 4 * l.other-index;
}
