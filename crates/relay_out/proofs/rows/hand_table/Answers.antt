use Rattle.std.proofs.Common.{sym, subst, ◌∙◌}
use Rattle.bmp_specs.specs.Orders.{nlri_cmp}
use Rattle.router_tables.specs.Views.{Table}
use Rattle.relay_out.specs.Handed.{Hands}
use Rattle.query_eval.proofs.RowOrder.{in_order_rising}
use Rattle.relay_out.proofs.Judged.{hands_taken}
use Rattle.relay_out.proofs.Steps.{items_of_pairs}
use Rattle.std.specs.List.{AllByRecursion}
use Rattle.relay_out.proofs.rows.hand_table.Goals as goal

pub returns-then-has_taken : goal.returns-then-has_taken
returns-then-has_taken g c = hands_taken c.args.taker.now _ (c.has_taken.ensures c.if-has_taken.true)

pub returns : goal.returns
returns g c =
    subst (λ (l : Table). Hands g.T.Takes.of g.T.Takes.took g.T.Takes.stopped (items_of_pairs c.args.info.now c.args.key.now c.args.view l) c.args.taker.now c.hand_walk.result c.hand_walk.new.taker)
    (c.walk.ensures ∙ sym (in_order_rising nlri_cmp c.args.table.now c.see_order.ensures.ordered)) c.hand_walk.ensures

pub hand_walk-requires : goal.hand_walk-requires
hand_walk-requires g c =
    subst (λ (l : Table). AllByRecursion g.T.Takes.may (items_of_pairs c.args.info.now c.args.key.now c.args.view l))
    (in_order_rising nlri_cmp c.args.table.now c.see_order.ensures.ordered ∙ sym c.walk.ensures) c.requires
