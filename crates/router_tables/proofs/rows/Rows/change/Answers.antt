use Rattle.std.proofs.Common.{◌≡◌, true, false, sym, ◌∙◌, subst}
use Rattle.std.specs.Option.{option_map}
use Rattle.std.proofs.lemmas.Result.{on_ok_weaker}
use Rattle.route_runs.specs.Runs.{shared}
use Rattle.router_tables.specs.Pending.{RowsValue, route_after, StandsForRows}
use Rattle.router_tables.proofs.PendingSteps.{rows_gathered}
use Rattle.router_tables.proofs.RouteSteps.{routes_unheard}
use Rattle.router_tables.proofs.rows.Rows.change.Goals as goal

pub returns-then-not-is_up : goal.returns-then-not-is_up
returns-then-not-is_up c effects standing h =
    routes_unheard c.args.key.now c.args.view (option_map shared c.args.to) c.args.nlris.now (route_after c.args.self.now.pending c.args.self.now.tables) effects
    (λ u. let e : false ≡ true = sym c.if-not-is_up.true ∙ (c.is_up.ensures.stands effects standing).1 u in cc) h

pub returns : goal.returns
returns c = on_ok_weaker c.gather.result (λ gathers effects standing h.
    rows_gathered c.args.key.now c.args.view c.args.nlris.now (option_map shared c.args.to) c.self.inside.pending.entries c.gather.new.pending.entries c.self.inside.tables.entries gathers effects
    ((c.is_up.ensures.stands effects standing).0 c.if-not-is_up.false) (subst (λ (r : RowsValue). StandsForRows r effects) (sym c.self.view_is) h)) c.gather.ensures
