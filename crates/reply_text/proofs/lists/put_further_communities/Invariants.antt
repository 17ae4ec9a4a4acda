use Rattle.std.proofs.Common.{map, take, Ok}
use Rattle.bmp_specs.specs.RouteLine.{community_text}
use Rattle.reply_text.specs.Pieces.{behind}
use Rattle.wire_io.specs.Writes.{Writes}
use Rattle.reply_text.proofs.lists.put_further_communities.Given as goal

abbrev pub invariant-loop-community : goal.invariant-loop-community
invariant-loop-community g l = Writes g.O.Sink.faults g.O.Sink.told g.O.Sink.aside l.fn.out (behind 44 (map community_text (take l.community-index l.communities))) (Ok tt) l.out
