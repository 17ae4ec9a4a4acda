use Rattle.std.proofs.Common.{◌≡◌, ◌∙◌, ◌+◌, ◌<◌, map, take, length, get_or, ap, sym, arith}
use Rattle.std.specs.Arc.{arc_value}
use Rattle.std.specs.Option.{option_map}
use Rattle.std.proofs.lemmas.List.{length-map}
use Rattle.route_runs.specs.Override.{value_at, or_else}
use Rattle.route_runs.specs.Runs.{latest}
use Rattle.route_runs.specs.Places.{told, is_after}
use Rattle.route_runs.proofs.Contents.{at_mapped}
use Rattle.route_runs.proofs.Searching.{latest_step, first_ext}
use Rattle.route_runs.proofs.cursor.first_row.Goals as goal

pub loop-at-preserved : goal.loop-at-preserved
loop-at-preserved g c =
    let cmp = g.K.Ord.cmp in
    let item = c.index-runs-at.result in
    let runs = map arc_value c.args.runs.now in
    let i = c.loop-at.at in
    let lt : i < length runs = omega (arith, c.loop-at-test.true, length-map c.args.runs.now (arc_value {X = _})) in
    let at : arc_value item ≡ get_or runs i (arc_value item) = ap arc_value c.index-runs-at.is ∙ sym (at_mapped arc_value c.args.runs.now i item) in
    record {
      within = omega (arith, c.loop-at-test.true);
      first = first_ext cmp (is_after cmp c.args.place) _ (λ q. latest cmp q (take (i + 1) runs)) (option_map told c.next_over-row.result.0)
          (λ q. latest_step cmp q runs (arc_value item) i lt at ∙ ap (λ l. or_else (value_at cmp q l) (latest cmp q (take i runs))) (sym c.deref.ensures))
          (c.next_over-row.ensures (λ q. latest cmp q (take i runs)) c.loop-at.invariant.first);
    }
