use Rattle.std.proofs.Common.{◌≡◌, ◌++◌, ℕ, List, false, length, map, Ok}
use Rattle.ask_specs.specs.Items.{items}
use Rattle.reply_text.specs.Own.{item_size, item_text}
use Rattle.reply_text.specs.Pieces.{more_texts}
use Rattle.wire_io.specs.Writes.{Writes}
use Rattle.reply_text.proofs.items.put_items.Given as goal

abbrev pub invariant-loop-rest : goal.invariant-loop-rest
invariant-loop-rest g l = record {
  front : List ℕ;
  written : Writes g.O.Sink.faults g.O.Sink.told g.O.Sink.aside l.fn.out front (Ok tt) l.out;
  parts : more_texts false (map (item_text l.item) (items (item_size l.item) l.value)) ≡ front ++ more_texts l.some (map (item_text l.item) (items (item_size l.item) l.rest));
}

abbrev pub decreases-loop-rest : goal.decreases-loop-rest
decreases-loop-rest g l = length l.rest
