use Rattle.std.proofs.Common.{◌≡◌, ◌∙◌, ◌-◌, ◌<◌, None, [], suc, drop, length, map, get_or, sym, subst, arith}
use Rattle.std.specs.Arc.{arc_value}
use Rattle.std.proofs.lemmas.List.{length-map, length-set}
use Rattle.route_runs.specs.Sift.{IsSpot}
use Rattle.route_runs.proofs.Sifting.{spot_begins}
use Rattle.route_runs.proofs.SiftingRuns.{mapped_at, spots_more}
use Rattle.route_runs.proofs.spots.first_spots.Goals as goal

pub loop-at-preserved : goal.loop-at-preserved
loop-at-preserved g c =
    let cmp = g.K.Ord.cmp in
    let P = g.T.RouteTest.passes c.args.test.now in
    let item = c.index-runs-at.result in
    let runs = map arc_value c.args.runs.now in
    let at = c.loop-at.at - 1 in
    let n = c.first_passing.result in
    let short : at < length c.args.runs.now = omega (arith, c.loop-at-test.true, c.loop-at.invariant.within) in
    let lt : at < length runs = omega (arith, short, length-map c.args.runs.now (arc_value {X = _})) in
    let here : get_or runs at [] ≡ arc_value item = mapped_at arc_value c.args.runs.now at item short c.index-runs-at.is in
    record {
      within = omega (arith, c.loop-at.invariant.within);
      long = length-set c.loop-at.spots at n ∙ c.loop-at.invariant.long;
      spots = spots_more cmp g.met.K.Ord.total g.met.K.RunKey.exact P runs c.loop-at.spots at n c.loop-at.at (omega (arith, c.loop-at-test.true)) lt (omega (arith, short, c.if-runs-gt-MOST.false, c.loop-at.invariant.long)) c.loop-at.invariant.spots
          (subst (λ r. IsSpot cmp P None (drop (suc at) runs) r n) (c.deref.ensures ∙ sym here) (spot_begins cmp g.met.K.Ord.total g.met.K.RunKey.exact P (drop (suc at) runs) c.deref.result.now n c.first_passing.ensures.ordered c.first_passing.ensures.first));
    }
