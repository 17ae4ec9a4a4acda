use Rattle.query_lang.specs.TraitValues.{traits_value}
use Rattle.std.proofs.Common.{Option, map, ap, subst}
use Rattle.bmp_specs.specs.Values.{PrefixValue}
use Rattle.route_runs.specs.Longest.{IsLongest}
use Rattle.router_tables.specs.Views.{Table}
use Rattle.query_eval.specs.declared.run.Part.TheVariants.{Exact}
use Rattle.query_eval.specs.Rows.{asks_longest, asks_run, row_of}
use Rattle.query_eval.proofs.KeptPairs.{kept_alike, kept_none}
use Rattle.query_eval.proofs.Leading.{lines_as, no_lines}
use Rattle.query_eval.proofs.RowTellings.{found_told, none_told}
use Rattle.query_eval.proofs.longest.put_found.Goals as goal

pub returns-in-Some : goal.returns-in-Some
returns-in-Some g c =
    let asks = c.args.asks.now in
    let found = subst (λ (p : Option PrefixValue). IsLongest asks.address c.args.table.now.table.now p) c.in-Some.is c.requires in
    lines_as c.args.out.now c.put_run.new.out _ _ c.put_run.result
    (ap (λ (l : Table). map (g.T.TellsRow.line asks.tells.now c.args.lane) (map (row_of c.args.table.now.key c.args.table.now.view) l))
    (kept_alike (traits_value asks.traits.now) (asks_run (record { family = asks.family; part = Exact c.in-Some.prefix })) (asks_longest asks.address asks.family) _
    (found_told asks.address asks.family c.args.table.now.table.now c.see_order.ensures.ordered c.see_order.ensures.nlri c.in-Some.prefix found)))
    c.put_run.ensures

pub returns-in-None : goal.returns-in-None
returns-in-None g c =
    let asks = c.args.asks.now in
    let none = subst (λ (p : Option PrefixValue). IsLongest asks.address c.args.table.now.table.now p) c.in-None.is c.requires in
    no_lines c.args.out.now _
    (ap (λ (l : Table). map (g.T.TellsRow.line asks.tells.now c.args.lane) (map (row_of c.args.table.now.key c.args.table.now.view) l))
    (kept_none (traits_value asks.traits.now) (asks_longest asks.address asks.family) _
    (none_told asks.address asks.family c.args.table.now.table.now c.see_order.ensures.ordered c.see_order.ensures.nlri none)))
