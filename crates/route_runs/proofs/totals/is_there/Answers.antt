use Rattle.std.proofs.Common.{◌≡◌, ◌∙◌, ◌-◌, ◌≤◌, None, Some, map, length, get_or, ap, sym, arith}
use Rattle.std.specs.Arc.{arc_value}
use Rattle.std.specs.Option.{is_some, option_map}
use Rattle.std.proofs.lemmas.List.{length-map}
use Rattle.route_runs.specs.Override.{value_at}
use Rattle.route_runs.specs.Runs.{seen}
use Rattle.route_runs.proofs.Contents.{at_mapped}
use Rattle.route_runs.proofs.CountingRuns.{said, said_nothing}
use Rattle.route_runs.proofs.Searching.{latest_here, latest_on}
use Rattle.route_runs.proofs.totals.is_there.Goals as goal

pub returns-in-Some : goal.returns-in-Some
returns-in-Some g c =
    let last = c.index-runs-at.result in
    let runs = map arc_value c.args.runs.now in
    let within : c.loop-at.at ≤ length runs = omega (arith, c.loop-at.invariant.within, length-map c.args.runs.now (arc_value {X = _})) in
    let at : arc_value last ≡ get_or runs (c.loop-at.at - 1) (arc_value last) = ap arc_value c.index-runs-at.is ∙ sym (at_mapped arc_value c.args.runs.now (c.loop-at.at - 1) last) in
    let there : Some c.in-Some.there ≡ option_map is_some (value_at g.K.Ord.cmp c.args.key.now (arc_value last)) = sym c.in-Some.is ∙ c.has_set-found.ensures ∙ ap (λ l. option_map is_some (value_at g.K.Ord.cmp c.args.key.now l)) c.deref.ensures in
    let o = said (value_at g.K.Ord.cmp c.args.key.now (arc_value last)) c.in-Some.there there in
    o.2 ∙ ap (λ v. is_some (seen v)) (latest_here g.K.Ord.cmp c.args.key.now runs (arc_value last) c.loop-at.at o.0 c.loop-at-test.true within at c.loop-at.invariant.rest o.1)

pub loop-at-preserved : goal.loop-at-preserved
loop-at-preserved g c =
    let last = c.index-runs-at.result in
    let runs = map arc_value c.args.runs.now in
    let within : c.loop-at.at ≤ length runs = omega (arith, c.loop-at.invariant.within, length-map c.args.runs.now (arc_value {X = _})) in
    let at : arc_value last ≡ get_or runs (c.loop-at.at - 1) (arc_value last) = ap arc_value c.index-runs-at.is ∙ sym (at_mapped arc_value c.args.runs.now (c.loop-at.at - 1) last) in
    let none : None ≡ option_map is_some (value_at g.K.Ord.cmp c.args.key.now (arc_value last)) = sym c.in_default.is ∙ c.has_set-found.ensures ∙ ap (λ l. option_map is_some (value_at g.K.Ord.cmp c.args.key.now l)) c.deref.ensures in
    record {
      within = omega (arith, c.loop-at.invariant.within);
      rest = latest_on g.K.Ord.cmp c.args.key.now runs (arc_value last) c.loop-at.at c.loop-at-test.true within at c.loop-at.invariant.rest (said_nothing (value_at g.K.Ord.cmp c.args.key.now (arc_value last)) none);
    }
