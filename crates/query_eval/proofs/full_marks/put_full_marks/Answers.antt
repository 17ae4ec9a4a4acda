use Rattle.std.proofs.Common.{sym}
use Rattle.query_eval.proofs.FullMarksTold.{are_full_mark_lines, full_mark_lines_one}
use Rattle.query_eval.proofs.Leading.{puts_own}
use Rattle.query_eval.proofs.full_marks.put_full_marks.Goals as goal

pub returns : goal.returns
returns g c =
    let select = c.args.select.now in
    let lane = c.args.lane in
    let value = c.args.tables.now in
    puts_own _ _ _ _ _ _ (λ entries stands. are_full_mark_lines select lane value entries stands (rw (sym c.peers.ensures) c.put_book.ensures.ordered)) (λ entries. full_mark_lines_one select lane entries) (rw (sym c.peers.ensures) c.put_book.ensures.lines)
