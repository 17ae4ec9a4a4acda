use Rattle.std.proofs.Common.{◌≡◌, ◌∙◌, ◌-◌, ◌≤◌, true, false, map, length, get_or, ap, sym, arith}
use Rattle.std.specs.Arc.{arc_value}
use Rattle.std.specs.Option.{is_some, option_map}
use Rattle.std.proofs.lemmas.List.{length-map}
use Rattle.route_runs.specs.Override.{value_at}
use Rattle.route_runs.proofs.Contents.{at_mapped}
use Rattle.route_runs.proofs.Searching.{latest_here, latest_on}
use Rattle.route_runs.proofs.SiftingRuns.{said_none, said_some}
use Rattle.route_runs.proofs.spots.is_in.Goals as goal

pub returns-then-is_some : goal.returns-then-is_some
returns-then-is_some g c =
    let last = c.index-runs-at.result in
    let runs = map arc_value c.args.runs.now in
    let within : c.loop-at.at ≤ length runs = omega (arith, c.loop-at.invariant.within, length-map c.args.runs.now (arc_value {X = _})) in
    let at : arc_value last ≡ get_or runs (c.loop-at.at - 1) (arc_value last) = ap arc_value c.index-runs-at.is ∙ sym (at_mapped arc_value c.args.runs.now (c.loop-at.at - 1) last) in
    let there : is_some (option_map is_some (value_at g.K.Ord.cmp c.args.key.now (arc_value last))) ≡ true = ap (λ l. is_some (option_map is_some (value_at g.K.Ord.cmp c.args.key.now l))) (sym c.deref.ensures) ∙ ap is_some (sym c.has_set-found.ensures) ∙ sym c.is_some.ensures ∙ c.if-is_some.true in
    let o = said_some (value_at g.K.Ord.cmp c.args.key.now (arc_value last)) there in
    ap is_some (latest_here g.K.Ord.cmp c.args.key.now runs (arc_value last) c.loop-at.at o.0 c.loop-at-test.true within at c.loop-at.invariant.rest o.1)

pub loop-at-preserved : goal.loop-at-preserved
loop-at-preserved g c =
    let last = c.index-runs-at.result in
    let runs = map arc_value c.args.runs.now in
    let within : c.loop-at.at ≤ length runs = omega (arith, c.loop-at.invariant.within, length-map c.args.runs.now (arc_value {X = _})) in
    let at : arc_value last ≡ get_or runs (c.loop-at.at - 1) (arc_value last) = ap arc_value c.index-runs-at.is ∙ sym (at_mapped arc_value c.args.runs.now (c.loop-at.at - 1) last) in
    let none : is_some (option_map is_some (value_at g.K.Ord.cmp c.args.key.now (arc_value last))) ≡ false = ap (λ l. is_some (option_map is_some (value_at g.K.Ord.cmp c.args.key.now l))) (sym c.deref.ensures) ∙ ap is_some (sym c.has_set-found.ensures) ∙ sym c.is_some.ensures ∙ c.if-is_some.false in
    record {
      within = omega (arith, c.loop-at.invariant.within);
      rest = latest_on g.K.Ord.cmp c.args.key.now runs (arc_value last) c.loop-at.at c.loop-at-test.true within at c.loop-at.invariant.rest (said_none (value_at g.K.Ord.cmp c.args.key.now (arc_value last)) none);
    }
