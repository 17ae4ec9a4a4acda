use Rattle.std.proofs.Common.{map, take, Ok}
use Rattle.ask_specs.specs.FullRouters.{family_count_text}
use Rattle.reply_text.specs.Pieces.{behind}
use Rattle.wire_io.specs.Writes.{Writes}
use Rattle.reply_text.proofs.full_router.put_further_families.Given as goal

abbrev pub invariant-loop-count : goal.invariant-loop-count
invariant-loop-count g l = Writes g.O.Sink.faults g.O.Sink.told g.O.Sink.aside l.fn.out (behind 44 (map family_count_text (take l.count-index l.counts))) (Ok tt) l.out
