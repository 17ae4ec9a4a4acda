use Rattle.std.proofs.Common.{◌∙◌, sym}
use Rattle.std.specs.String.{string_bytes}
use Rattle.station_words.proofs.Readings.{reads_lone, reads_others}
use Rattle.station_words.proofs.words.read_lone.Goals as goal

pub returns-then-is_empty : goal.returns-then-is_empty
returns-then-is_empty c = reads_lone string_bytes c.args.command c.args.given.now (sym c.if-is_empty.true ∙ c.is_empty.ensures)

pub returns-else-is_empty : goal.returns-else-is_empty
returns-else-is_empty c = reads_others string_bytes c.args.command c.args.given.now (sym c.if-is_empty.false ∙ c.is_empty.ensures)
