use Rattle.std.proofs.Common.{[], ◌∷◌, map, take, Ok}
use Rattle.bmp_specs.specs.PeerText.{hex_text}
use Rattle.bmp_specs.specs.Values.{OtherValue}
use Rattle.reply_text.specs.Pieces.{behind}
use Rattle.wire_io.specs.Writes.{Writes}
use Rattle.reply_text.proofs.lists.put_further_flags.Given as goal

abbrev pub invariant-loop-other : goal.invariant-loop-other
invariant-loop-other g l = Writes g.O.Sink.faults g.O.Sink.told g.O.Sink.aside l.fn.out (behind 44 (map (λ (other : OtherValue). hex_text (other.flags ∷ [])) (take l.other-index l.others))) (Ok tt) l.out
