use Rattle.std.proofs.Common.{◌≡◌, ◌∙◌, ◌-◌, ◌≤◌, map, length, get_or, ap, sym, arith}
use Rattle.std.specs.Arc.{arc_value}
use Rattle.std.proofs.lemmas.List.{length-map}
use Rattle.route_runs.specs.Override.{value_at}
use Rattle.route_runs.proofs.Contents.{at_mapped}
use Rattle.route_runs.proofs.Searching.{latest_here, latest_on}
use Rattle.route_runs.proofs.find.latest_in.Goals as goal

pub returns-in-Some : goal.returns-in-Some
returns-in-Some g c =
    let last = c.index-runs-at.result in
    let runs = map arc_value c.args.runs.now in
    let within : c.loop-at.at ≤ length runs = omega (arith, c.loop-at.invariant.within, length-map c.args.runs.now (arc_value {X = _})) in
    let at : arc_value last ≡ get_or runs (c.loop-at.at - 1) (arc_value last) = ap arc_value c.index-runs-at.is ∙ sym (at_mapped arc_value c.args.runs.now (c.loop-at.at - 1) last) in
    latest_here g.K.Ord.cmp c.args.key.now runs (arc_value last) c.loop-at.at _ c.loop-at-test.true within at c.loop-at.invariant.rest (c.in-Some.ensures ∙ ap (value_at g.K.Ord.cmp c.args.key.now) c.deref.ensures)

pub loop-at-preserved : goal.loop-at-preserved
loop-at-preserved g c =
    let last = c.index-runs-at.result in
    let runs = map arc_value c.args.runs.now in
    let within : c.loop-at.at ≤ length runs = omega (arith, c.loop-at.invariant.within, length-map c.args.runs.now (arc_value {X = _})) in
    let at : arc_value last ≡ get_or runs (c.loop-at.at - 1) (arc_value last) = ap arc_value c.index-runs-at.is ∙ sym (at_mapped arc_value c.args.runs.now (c.loop-at.at - 1) last) in
    record {
      within = omega (arith, c.loop-at.invariant.within);
      rest = latest_on g.K.Ord.cmp c.args.key.now runs (arc_value last) c.loop-at.at c.loop-at-test.true within at c.loop-at.invariant.rest (c.in_default.ensures ∙ ap (value_at g.K.Ord.cmp c.args.key.now) c.deref.ensures);
    }
