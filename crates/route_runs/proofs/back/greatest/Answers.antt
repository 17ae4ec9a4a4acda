use Rattle.std.proofs.Common.{◌≡◌, ◌∙◌, ◌+◌, ◌<◌, map, take, length, get_or, ap, sym, subst, arith}
use Rattle.std.specs.Arc.{arc_value}
use Rattle.std.specs.Option.{is_some}
use Rattle.std.proofs.lemmas.List.{length-map}
use Rattle.route_runs.specs.Override.{value_at}
use Rattle.route_runs.specs.Runs.{latest}
use Rattle.route_runs.specs.Places.{turned, IsNext, has_key, has_latest}
use Rattle.route_runs.proofs.Contents.{at_mapped}
use Rattle.route_runs.proofs.Searching.{turned_total, turned_exact, latest_step, some_or, next_both, next_ext}
use Rattle.route_runs.proofs.back.greatest.Goals as goal

pub loop-run-preserved : goal.loop-run-preserved
loop-run-preserved g c =
    let cmp = g.K.Ord.cmp in
    let item = c.run-item.result in
    let runs = map arc_value c.args.runs.now in
    let i = c.loop-run.run-index in
    let lt : i < length runs = omega (arith, c.loop-run-test.true, length-map c.args.runs.now (arc_value {X = _})) in
    let at : arc_value item ≡ get_or runs i (arc_value item) = ap arc_value c.run-item.is ∙ sym (at_mapped arc_value c.args.runs.now i item) in
    let next = subst (λ l. IsNext (turned cmp) c.args.place (has_key cmp l) c.last_key.result) c.deref.ensures c.last_key.ensures in
    subst (IsNext (turned cmp) c.args.place (has_latest cmp (take (i + 1) runs))) (sym c.greater-best.ensures)
    (next_ext (turned cmp) c.args.place _ _ _ (λ q. ap is_some (latest_step cmp q runs (arc_value item) i lt at) ∙ some_or (value_at cmp q (arc_value item)) (latest cmp q (take i runs)))
    (next_both (turned cmp) (turned_total cmp g.met.K.Ord.total g.met.K.RunKey.exact) (turned_exact cmp g.met.K.RunKey.exact) c.args.place (has_latest cmp (take i runs)) (has_key cmp (arc_value item)) c.loop-run.best c.last_key.result c.loop-run.invariant next))
