use Rattle.std.proofs.Common.{◌≡◌, false, take, Ok}
use Rattle.std.specs.Prelude.{filter_map}
use Rattle.ask_specs.specs.FullLine.{text_of_own}
use Rattle.reply_text.specs.Own.{own_value}
use Rattle.reply_text.specs.Pieces.{goes_on, more_texts}
use Rattle.wire_io.specs.Writes.{Writes}
use Rattle.reply_text.proofs.own.put_own_texts.Given as goal

abbrev pub invariant-loop-other : goal.invariant-loop-other
invariant-loop-other g l = record {
  written : Writes g.O.Sink.faults g.O.Sink.told g.O.Sink.aside l.fn.out (more_texts false (filter_map (text_of_own (own_value l.own)) (take l.other-index l.others))) (Ok tt) l.out;
  some : l.some ≡ goes_on false (filter_map (text_of_own (own_value l.own)) (take l.other-index l.others));
}
