use Rattle.ask_specs.specs.AskReply.{AreAskedChangeLines}
use Rattle.router_tables.specs.Tables.{StandsFor, steps_told}
use Rattle.query_eval.specs.RowChanges.{told_changes}
use Rattle.query_eval.proofs.Leading.{puts_own}
use Rattle.query_eval.proofs.RowChangeLaws.{tables_told, change_lines_one}
use Rattle.query_eval.proofs.changes.put_changes.Goals as goal

pub returns : goal.returns
returns g c =
    puts_own (StandsFor c.args.tables.now) (λ entries. AreAskedChangeLines c.args.full c.args.lane entries c.args.from c.args.prefix.now) (told_changes c.args.full (steps_told c.recent.result.now) c.args.lane c.args.from c.args.prefix.now)
    c.args.out.now c.put_recent.new.out c.put_recent.result
    (tables_told c.args.full c.args.tables.now c.recent.result.now c.args.lane c.args.from c.args.prefix.now c.recent.ensures)
    (λ entries xs ys p q. change_lines_one c.args.full c.args.lane c.args.from c.args.prefix.now entries xs ys p q)
    c.put_recent.ensures
