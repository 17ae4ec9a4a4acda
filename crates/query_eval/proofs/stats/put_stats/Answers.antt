use Rattle.query_eval.proofs.Leading.{puts_own}
use Rattle.query_eval.proofs.StatsTold.{are_stat_lines, stat_lines_one}
use Rattle.query_eval.proofs.stats.put_stats.Goals as goal

pub returns : goal.returns
returns g c =
    let lane = c.args.lane in
    let key = c.args.key.now in
    puts_own _ _ _ _ _ _ (λ entries stands. are_stat_lines lane key entries _ c.put_book.ensures.ordered (rw c.stats.ensures stands.session.books.stats)) (λ entries. stat_lines_one lane key entries) c.put_book.ensures.lines
