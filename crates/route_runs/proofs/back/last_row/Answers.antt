use Rattle.std.proofs.Common.{◌≡◌, ◌∙◌, ◌+◌, ◌<◌, map, take, length, get_or, ap, sym, arith}
use Rattle.std.specs.Arc.{arc_value}
use Rattle.std.specs.Option.{option_map}
use Rattle.std.proofs.lemmas.List.{length-map}
use Rattle.route_runs.specs.Override.{value_at, or_else}
use Rattle.route_runs.specs.Runs.{latest}
use Rattle.route_runs.specs.Places.{told, turned, is_from}
use Rattle.route_runs.proofs.Contents.{at_mapped}
use Rattle.route_runs.proofs.Searching.{latest_step, first_ext}
use Rattle.route_runs.proofs.back.last_row.Goals as goal

pub loop-run-preserved : goal.loop-run-preserved
loop-run-preserved g c =
    let cmp = g.K.Ord.cmp in
    let item = c.run-item.result in
    let runs = map arc_value c.args.runs.now in
    let i = c.loop-run.run-index in
    let lt : i < length runs = omega (arith, c.loop-run-test.true, length-map c.args.runs.now (arc_value {X = _})) in
    let at : arc_value item ≡ get_or runs i (arc_value item) = ap arc_value c.run-item.is ∙ sym (at_mapped arc_value c.args.runs.now i item) in
    first_ext (turned cmp) (is_from (turned cmp) c.args.place.now) _ (λ q. latest cmp q (take (i + 1) runs)) (option_map told c.last_over-last.result)
    (λ q. latest_step cmp q runs (arc_value item) i lt at ∙ ap (λ l. or_else (value_at cmp q l) (latest cmp q (take i runs))) (sym c.deref.ensures))
    (c.last_over-last.ensures (λ q. latest cmp q (take i runs)) c.loop-run.invariant)
