use Rattle.std.proofs.Common.{◌≡◌, ◌∙◌, ◌<◌, map, length, get_or, ap, sym, subst, arith}
use Rattle.std.specs.Arc.{arc_value}
use Rattle.std.proofs.lemmas.List.{length-map}
use Rattle.route_runs.specs.Origins.{attrs_origin, AreAdded}
use Rattle.route_runs.proofs.Contents.{at_mapped}
use Rattle.route_runs.proofs.Indexing.{all_none, all_more, all_runs}
use Rattle.route_runs.proofs.index.add_all.Goals as goal

pub loop-run-init : goal.loop-run-init
loop-run-init g c = all_none g.K.Ord.cmp g.K.TableKey.spot_of attrs_origin (map arc_value c.args.runs.now) _

pub loop-run-preserved : goal.loop-run-preserved
loop-run-preserved g c =
    let item = c.run-item.result in
    let runs = map arc_value c.args.runs.now in
    let i = c.loop-run.run-index in
    let lt : i < length runs = omega (arith, c.loop-run-test.true, length-map c.args.runs.now (arc_value {X = _})) in
    let at : arc_value item ≡ get_or runs i (arc_value item) = ap arc_value c.run-item.is ∙ sym (at_mapped arc_value c.args.runs.now i item) in
    let added = subst (λ l. AreAdded g.K.Ord.cmp g.K.TableKey.spot_of attrs_origin l c.add_pairs.new.pairs.items) c.deref.ensures c.in_ok-add_pairs.ensures.added in
    all_more g.K.Ord.cmp g.K.TableKey.spot_of attrs_origin runs (arc_value item) i _ _ lt at c.in_ok-add_pairs.ensures.kept added c.loop-run.invariant

pub returns : goal.returns
returns g c = all_runs g.K.Ord.cmp g.K.TableKey.spot_of attrs_origin (map arc_value c.args.runs.now) c.loop-run.run-index _ (omega (arith, c.loop-run-test.false, length-map c.args.runs.now (arc_value {X = _}))) c.loop-run.invariant
