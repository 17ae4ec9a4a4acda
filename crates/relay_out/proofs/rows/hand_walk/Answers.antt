use Rattle.std.proofs.Common.{[], ◌∷◌, refl, ap, take}
use Rattle.route_runs.specs.Runs.{shared}
use Rattle.router_tables.specs.Views.{Table}
use Rattle.query_eval.specs.RowRuns.{shown_all}
use Rattle.relay_out.proofs.Handing.{hands_none, leads_begin, leads_end, leads_failed, leads_fit, leads_on}
use Rattle.relay_out.proofs.Steps.{items_of_pairs, pairs_split, some_may}
use Rattle.relay_out.proofs.rows.hand_walk.Goals as goal

pub returns-in_default : goal.returns-in_default
returns-in_default g c = hands_none _ _ (ap (items_of_pairs c.args.info.now c.args.key.now c.args.view) (c.in_default.ensures.none.0 refl))

pub hand_batch-requires-clause-may : goal.hand_batch-requires-clause-may
hand_batch-requires-clause-may g c =
    let first : Table = (c.in-Some.found.0, shared c.in-Some.found.1) ∷ [] in
    some_may g.T.Takes.may c.args.info.now c.args.key.now c.args.view _ first _ c.in-Some.ensures.next c.requires

pub returns-in_err-hand_batch : goal.returns-in_err-hand_batch
returns-in_err-hand_batch g c =
    let first : Table = (c.in-Some.found.0, shared c.in-Some.found.1) ∷ [] in
    leads_failed _ _ _ _ _ _ _ _ _ (leads_begin _ _ _ refl c.requires) c.in_err-hand_batch.ensures c.from_residual.ensures.1 (pairs_split c.args.info.now c.args.key.now c.args.view _ first _ c.in-Some.ensures.next)

pub loop-init : goal.loop-init
loop-init g c =
    let first : Table = (c.in-Some.found.0, shared c.in-Some.found.1) ∷ [] in
    leads_on _ _ _ _ _ _ _ _ (leads_begin _ _ _ refl c.requires) c.in_ok-hand_batch.ensures (pairs_split c.args.info.now c.args.key.now c.args.view _ first _ c.in-Some.ensures.next)

pub hand_batch-requires-in-loop-clause-may : goal.hand_batch-requires-in-loop-clause-may
hand_batch-requires-in-loop-clause-may g c =
    let n = c.gather-some.result in
    let some : Table = shown_all (take n c.gather-some.new.nlris) (take n c.gather-some.new.routes) in
    leads_fit _ _ _ _ _ _ c.loop.invariant (pairs_split c.args.info.now c.args.key.now c.args.view c.loop.walk some c.gather-some.new.walk c.gather-some.ensures.all)

pub returns-in_err-hand_batch-2 : goal.returns-in_err-hand_batch-2
returns-in_err-hand_batch-2 g c =
    let n = c.gather-some.result in
    let some : Table = shown_all (take n c.gather-some.new.nlris) (take n c.gather-some.new.routes) in
    leads_failed _ _ _ _ _ _ _ _ _ c.loop.invariant c.in_err-hand_batch-2.ensures c.from_residual-in_err-hand_batch-2.ensures.1
    (pairs_split c.args.info.now c.args.key.now c.args.view c.loop.walk some c.gather-some.new.walk c.gather-some.ensures.all)

pub returns-then-some-lt-AHEAD : goal.returns-then-some-lt-AHEAD
returns-then-some-lt-AHEAD g c =
    let n = c.gather-some.result in
    let some : Table = shown_all (take n c.gather-some.new.nlris) (take n c.gather-some.new.routes) in
    leads_end _ _ _ _ (leads_on _ _ _ _ _ _ _ _ c.loop.invariant c.in_ok-hand_batch-2.ensures (pairs_split c.args.info.now c.args.key.now c.args.view c.loop.walk some c.gather-some.new.walk c.gather-some.ensures.all))
    (ap (items_of_pairs c.args.info.now c.args.key.now c.args.view) (c.gather-some.ensures.last c.if-some-lt-AHEAD.true))

pub loop-preserved : goal.loop-preserved
loop-preserved g c =
    let n = c.gather-some.result in
    let some : Table = shown_all (take n c.gather-some.new.nlris) (take n c.gather-some.new.routes) in
    leads_on _ _ _ _ _ _ _ _ c.loop.invariant c.in_ok-hand_batch-2.ensures (pairs_split c.args.info.now c.args.key.now c.args.view c.loop.walk some c.gather-some.new.walk c.gather-some.ensures.all)
