use Rattle.std.proofs.Common.{length, ap, sym, ◌∙◌}
use Rattle.bmp_specs.specs.Orders.{nlri_cmp}
use Rattle.bmp_specs.specs.Reply.{told_count}
use Rattle.route_runs.specs.Nlri.{with_family}
use Rattle.router_tables.specs.Views.{Table}
use Rattle.query_eval.proofs.RowOrder.{in_order_rising}
use Rattle.query_eval.proofs.count.count_family.Goals as goal

pub returns : goal.returns
returns c = c.count_of.ensures ∙ ap (λ (l : Table). told_count (length (with_family c.args.family l))) (sym (in_order_rising nlri_cmp c.args.table.now.table.now c.see_order.ensures.ordered))
