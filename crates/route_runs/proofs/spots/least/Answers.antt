use Rattle.std.proofs.Common.{◌≡◌, ◌∙◌, ◌-◌, ◌<◌, [], drop, length, map, get_or, ap, sym, arith}
use Rattle.std.specs.Arc.{arc_value}
use Rattle.std.specs.Option.{option_map}
use Rattle.std.proofs.lemmas.List.{length-map}
use Rattle.route_runs.specs.Sift.{front, key_at, lesser_spot}
use Rattle.route_runs.proofs.SiftingRuns.{least_step, mapped_at}
use Rattle.route_runs.proofs.spots.least.Goals as goal

pub loop-at-preserved : goal.loop-at-preserved
loop-at-preserved g c =
    let cmp = g.K.Ord.cmp in
    let item = c.index-runs-at.result in
    let runs = map arc_value c.args.runs.now in
    let spots = c.args.spots.now in
    let at = c.loop-at.at - 1 in
    let short : at < length c.args.runs.now = omega (arith, c.loop-at-test.true, c.loop-at.invariant.within) in
    let lt : at < length runs = omega (arith, short, length-map c.args.runs.now (arc_value {X = _})) in
    let here : get_or runs at [] ≡ arc_value item = mapped_at arc_value c.args.runs.now at item short c.index-runs-at.is in
    let key : c.key_in.result ≡ key_at runs spots at = c.key_in.ensures ∙ ap (λ l. option_map (λ e. e.0) (front (drop (get_or spots at 0) l))) (c.deref.ensures ∙ sym here) in
    record {
      within = omega (arith, c.loop-at.invariant.within);
      least = least_step cmp g.met.K.Ord.total g.met.K.RunKey.exact runs spots at lt c.loop-at.found c.lesser-found.result c.loop-at.at (omega (arith, c.loop-at-test.true)) (c.lesser-found.ensures ∙ ap (lesser_spot cmp c.loop-at.found at) key) c.loop-at.invariant.least;
    }
