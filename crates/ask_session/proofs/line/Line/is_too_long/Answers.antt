use Rattle.std.proofs.Common.{◌∙◌, ap}
use Rattle.ask_session.specs.Lines.{chomped}
use Rattle.ask_session.proofs.NextLine.{tells_many}
use Rattle.ask_session.proofs.line.Line.is_too_long.Goals as goal

pub returns : goal.returns
returns c = tells_many c.args.self.now c.chomp.result.now (c.chomp.ensures ∙ ap chomped c.as_slice.ensures)
