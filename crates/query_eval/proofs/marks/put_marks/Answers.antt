use Rattle.query_eval.proofs.Leading.{puts_own}
use Rattle.query_eval.proofs.MarksTold.{are_mark_lines, mark_lines_one}
use Rattle.query_eval.proofs.marks.put_marks.Goals as goal

pub returns : goal.returns
returns g c =
    let select = c.args.select.now in
    let lane = c.args.lane in
    puts_own _ _ _ _ _ _ (λ entries stands. are_mark_lines select lane entries _ c.put_book.ensures.ordered (rw c.peers.ensures stands.session.books.peers)) (λ entries. mark_lines_one select lane entries) c.put_book.ensures.lines
