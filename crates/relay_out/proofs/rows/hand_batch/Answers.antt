use Rattle.std.proofs.Common.{◌≡◌, List, [], ◌∷◌, drop, length-drop, arith, refl, ap, add-one}
use Rattle.std.proofs.lemmas.List.{nil_from_length}
use Rattle.std.specs.List.{AllByRecursion}
use Rattle.bmp_specs.specs.Rows.{RowValue}
use Rattle.bmp_specs.specs.Values.{NlriValue}
use Rattle.query_eval.specs.RowRuns.{shown_all}
use Rattle.relay_out.specs.Messages.{announces}
use Rattle.relay_out.proofs.Handing.{leads_begin, leads_end, leads_failed, leads_fit, leads_looked, leads_on, looks_failed}
use Rattle.relay_out.proofs.Steps.{items_of_pairs, places_next}
use Rattle.relay_out.proofs.rows.hand_batch.Goals as goal

pub returns-in_err-look : goal.returns-in_err-look
returns-in_err-look g c = looks_failed _ _ _ _ _ c.in_err-look.ensures c.from_residual.ensures.1

pub loop-at-init : goal.loop-at-init
loop-at-init g c = leads_looked _ _ _ _ _ _ _ (leads_begin _ _ _ refl c.requires.may) c.in_ok-look.ensures

pub loop-at-preserved : goal.loop-at-preserved
loop-at-preserved g c =
    rw add-one (leads_on _ _ _ _ _ _ _ _ c.loop-at.invariant c.in_ok-take.ensures
    (places_next c.args.info.now c.args.key.now c.args.view c.args.nlris.now c.args.routes.now c.loop-at.at c.index-nlris-at.result c.index-nlris-at.result c.index-routes-at.result c.index-routes-at.result c.deref.result.now (omega arith) c.requires.same c.index-nlris-at.is c.index-routes-at.is c.deref.ensures))

pub returns-in_err-take : goal.returns-in_err-take
returns-in_err-take g c =
    leads_failed _ _ _ _ _ _ _ _ _ c.loop-at.invariant c.in_err-take.ensures c.from_residual-in_err-take.ensures.1
    (places_next c.args.info.now c.args.key.now c.args.view c.args.nlris.now c.args.routes.now c.loop-at.at c.index-nlris-at.result c.index-nlris-at.result c.index-routes-at.result c.index-routes-at.result c.deref.result.now (omega arith) c.requires.same c.index-nlris-at.is c.index-routes-at.is c.deref.ensures)

pub take-requires : goal.take-requires
take-requires g c =
    let row : RowValue = record { row_key = record { key = c.args.key.now; view = c.args.view; nlri = c.index-nlris-at.result }; route = c.deref.result.now } in
    let fit : AllByRecursion g.T.Takes.may (announces c.args.info.now row ∷ []) =
    leads_fit _ _ (announces c.args.info.now row ∷ []) _ _ _ c.loop-at.invariant
    (places_next c.args.info.now c.args.key.now c.args.view c.args.nlris.now c.args.routes.now c.loop-at.at c.index-nlris-at.result c.index-nlris-at.result c.index-routes-at.result c.index-routes-at.result c.deref.result.now (omega arith) c.requires.same c.index-nlris-at.is c.index-routes-at.is c.deref.ensures) in
    fit.0

pub returns : goal.returns
returns g c =
    let left : drop c.loop-at.at c.args.nlris.now ≡ [] = nil_from_length _ (omega (arith, length-drop c.loop-at.at c.args.nlris.now, c.loop-at-test.false)) in
    leads_end _ _ _ _ c.loop-at.invariant (ap (λ (l : List NlriValue). items_of_pairs c.args.info.now c.args.key.now c.args.view (shown_all l (drop c.loop-at.at c.args.routes.now))) left)
