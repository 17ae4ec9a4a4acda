use Rattle.std.proofs.Common.{◌≡◌, false, drop}
use Rattle.ask_specs.specs.FullLine.{is_divided_plainly}
use Rattle.reply_text.proofs.raw.is_divided_plainly.Given as goal

abbrev pub invariant-loop-segment : goal.invariant-loop-segment
invariant-loop-segment l = is_divided_plainly false l.segments ≡ is_divided_plainly l.after_sequence (drop l.segment-index l.segments)
