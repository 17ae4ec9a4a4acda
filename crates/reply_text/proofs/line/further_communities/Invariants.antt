use Rattle.std.proofs.Common.{◌≡◌, ◌+◌, ◌*◌, ◌≤◌, ◌++◌, map, take}
use Rattle.bmp_specs.specs.RouteLine.{comma, community_text}
use Rattle.reply_text.specs.Pieces.{behind}
use Rattle.reply_text.proofs.line.further_communities.Given as goal

abbrev pub invariant-loop-value : goal.invariant-loop-value
invariant-loop-value l = record {
  whole : take l.end l.line ≡ take l.at l.fn.line ++ behind comma (map community_text (take l.value-index l.values));
  short : l.end ≤ l.at + 22 * l.value-index;
}
