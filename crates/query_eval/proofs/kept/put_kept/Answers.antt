use Rattle.query_lang.specs.TraitValues.{traits_value}
use Rattle.std.proofs.Common.{map, ap}
use Rattle.std.specs.List.{filter}
use Rattle.router_tables.specs.Views.{Table}
use Rattle.query_eval.specs.RowRuns.{front_of}
use Rattle.query_eval.specs.Rows.{passes, row_of}
use Rattle.query_eval.proofs.KeptPairs.{all_front, nothing_dropped}
use Rattle.query_eval.proofs.Leading.{lines_as}
use Rattle.query_eval.proofs.kept.put_kept.Goals as goal

pub returns-then-asks_nothing : goal.returns-then-asks_nothing
returns-then-asks_nothing g c =
    lines_as c.args.out.now c.put_while_in_run.new.out _ _ c.put_while_in_run.result
    (ap (λ (l : Table). map (g.T.TellsRow.line c.args.tells.now c.args.lane) (map (row_of c.args.table.now.key c.args.table.now.view) l))
    (nothing_dropped (traits_value c.args.traits.now) (c.asks_nothing.ensures.0 c.if-asks_nothing.true) (front_of c.args.run.now (g.W.Pairs.left c.args.walk))))
    c.put_while_in_run.ensures

pub returns : goal.returns
returns g c =
    lines_as c.args.out.now c.put_while_in_run-2.new.out _ _ c.put_while_in_run-2.result
    (ap (λ (l : Table). map (g.T.TellsRow.line c.args.tells.now c.args.lane) (map (row_of c.args.table.now.key c.args.table.now.view) l))
    (all_front (filter (passes (traits_value c.args.traits.now)) (front_of c.args.run.now (g.W.Pairs.left c.args.walk)))))
    c.put_while_in_run-2.ensures
