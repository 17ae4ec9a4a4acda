use Rattle.std.proofs.Common.{take, drop, Ok, ◌+◌, arith}
use Rattle.wire_io.proofs.Joins.{join, join_failed}
use Rattle.station_top.specs.Check.{number_lines}
use Rattle.station_top.proofs.CheckCounts.{number_lines_more, number_lines_split}
use Rattle.station_top.proofs.counts.put_numbers.Goals as goal

pub returns-in_err-put_number : goal.returns-in_err-put_number
returns-in_err-put_number g c =
    let i = c.loop-word.word-index in
    let lines = c.args.lines.now in
    join_failed c.args.out.now c.loop-word.out c.put_number.new.out (number_lines (take i lines)) _ (number_lines (drop (i + 1) lines)) (number_lines lines) _ c.from_residual.result
    c.loop-word.invariant c.in_err-put_number.ensures c.from_residual.ensures.0 (number_lines_split lines i _ (omega arith))

pub loop-word-preserved : goal.loop-word-preserved
loop-word-preserved g c =
    let i = c.loop-word.word-index in
    let lines = c.args.lines.now in
    join c.args.out.now c.loop-word.out c.put_number.new.out (number_lines (take i lines)) _ _ tt (Ok tt) c.loop-word.invariant c.in_ok-put_number.ensures (number_lines_more lines i _ (omega arith))
