use Rattle.std.proofs.Common.{◌≡◌, take, Ok}
use Rattle.std.specs.Prelude.{filter_map}
use Rattle.ask_specs.specs.FullLine.{raw_of}
use Rattle.reply_text.specs.Pieces.{goes_on, more_texts}
use Rattle.wire_io.specs.Writes.{Writes}
use Rattle.reply_text.proofs.raw.put_raw_others.Given as goal

abbrev pub invariant-loop-other : goal.invariant-loop-other
invariant-loop-other g l = record {
  written : Writes g.O.Sink.faults g.O.Sink.told g.O.Sink.aside l.fn.out (more_texts l.begun (filter_map raw_of (take l.other-index l.others))) (Ok tt) l.out;
  some : l.some ≡ goes_on l.begun (filter_map raw_of (take l.other-index l.others));
}
