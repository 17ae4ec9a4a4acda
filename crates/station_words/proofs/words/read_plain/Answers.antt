use Rattle.std.proofs.Common.{◌∙◌, map, sym}
use Rattle.std.specs.String.{string_bytes}
use Rattle.station_words.proofs.Readings.{reads_more, reads_plain}
use Rattle.station_words.proofs.words.read_plain.Goals as goal

pub returns-then-is_empty : goal.returns-then-is_empty
returns-then-is_empty c =
    let split = c.split_lenient-lenient in
    reads_plain string_bytes c.args.command split.result.0 (map string_bytes c.args.given.now) split.result.1.now split.ensures (sym c.if-is_empty.true ∙ c.is_empty.ensures)

pub returns-else-is_empty : goal.returns-else-is_empty
returns-else-is_empty c =
    let split = c.split_lenient-lenient in
    reads_more string_bytes c.args.command split.result.0 (map string_bytes c.args.given.now) split.result.1.now split.ensures (sym c.if-is_empty.false ∙ c.is_empty.ensures)
