use Rattle.std.proofs.Common.{Option, refl, sym, ap, ◌∙◌, subst}
use Rattle.std.specs.BTreeMap.{BTreeMap, is_at}
use Rattle.std.specs.Map.{lookup}
use Rattle.std.specs.Option.{option_map, IsSome}
use Rattle.std.specs.Result.{OnOk}
use Rattle.std.proofs.lemmas.Result.{on_ok_weaker}
use Rattle.bmp_specs.specs.Orders.{key_cmp}
use Rattle.bmp_specs.specs.Values.{KeyValue}
use Rattle.route_runs.specs.Runs.{shared}
use Rattle.router_tables.specs.Pending.{PendingValue, IsGatheredFor}
use Rattle.router_tables.proofs.PendingSteps.{gathered_there}
use Rattle.router_tables.proofs.pending.gather.Goals as goal

pub returns-in-Some : goal.returns-in-Some
returns-in-Some c =
    let to = option_map shared c.args.to in
    on_ok_weaker c.change.result
    (λ gathered. gathered_there c.args.key.now c.args.view c.args.nlris.now to c.args.pending.now.entries (c.get_mut.follows.lender c.change.new.self).entries c.in-Some.changes.now c.change.new.self c.in-Some.ensures.value gathered
    (((c.get_mut.follows.holds c.change.new.self).3 (subst (λ (o : Option PendingValue). IsSome o) c.in-Some.ensures.value refl)).0)) c.change.ensures

pub returns-in-None : goal.returns-in-None
returns-in-None c =
    let key = c.args.key.now in
    let same = c.get_mut.follows.holds-at-none in
    let none = ap (λ (m : BTreeMap KeyValue PendingValue). lookup (is_at (key_cmp key)) m.entries) same ∙ sym c.in-None.ensures.value in
    subst (λ (m : BTreeMap KeyValue PendingValue). OnOk c.gather_first.result (IsGatheredFor key c.args.view c.args.nlris.now (option_map shared c.args.to) m.entries c.gather_first.new.pending.entries)) same
    (on_ok_weaker c.gather_first.result (λ first. first none) c.gather_first.ensures)
