use Rattle.std.proofs.Common.{◌≡◌, ◌+◌, ◌*◌, ◌≤◌, ◌++◌, map, take}
use Rattle.bmp_specs.specs.NumberText.{number_text}
use Rattle.reply_text.specs.Pieces.{behind}
use Rattle.reply_text.proofs.line.put_behind.Given as goal

abbrev pub invariant-loop-value : goal.invariant-loop-value
invariant-loop-value l = record {
  whole : take l.end l.line ≡ take l.at l.fn.line ++ behind l.mark (map number_text (take l.value-index l.numbers));
  short : l.end ≤ l.at + 11 * l.value-index;
}
