use Rattle.std.proofs.Common.{◌≡◌, [], sym, subst}
use Rattle.std.proofs.lemmas.Result.{on_ok_weaker}
use Rattle.router_tables.specs.Pending.{RowsValue, AreRowsAfter, StandsForRows}
use Rattle.router_tables.proofs.ChangesMade.{rows_settled}
use Rattle.router_tables.proofs.rows.Rows.settle.Goals as goal

pub returns : goal.returns
returns c = on_ok_weaker c.make_changes.result (λ made effects h.
    let none : c.replace-pending.new.dest.entries ≡ [] = rw c.replace-pending.ensures.after c.new.ensures.empty in
    let was : AreRowsAfter c.replace-pending.result.entries c.self.inside.tables.entries effects =
    rw c.replace-pending.ensures.value (subst (λ (r : RowsValue). StandsForRows r effects) (sym c.self.view_is) h) in
    rows_settled c.replace-pending.new.dest.entries c.make_changes.new.tables.entries effects none (made effects was)) c.make_changes.ensures
