use Rattle.std.proofs.Common.{◌≡◌, ◌∙◌, ◌-◌, map, ap, sym, refl, get_or, subst, nat_eq}
use Rattle.std.specs.Arc.{arc_value}
use Rattle.route_runs.specs.Override.{IsOverride}
use Rattle.route_runs.proofs.Contents.{settle_more, at_mapped}
use Rattle.route_runs.proofs.runs.settle.Goals as goal

pub loop-kept-preserved : goal.loop-kept-preserved
loop-kept-preserved g c =
    let last = c.index-runs-kept.result in
    let at : arc_value last ≡ get_or (map arc_value c.args.runs.now) (c.loop-kept.kept - 1) (arc_value last) = ap arc_value c.index-runs-kept.is ∙ sym (at_mapped arc_value c.args.runs.now (c.loop-kept.kept - 1) last) in
    settle_more g.K.Ord.cmp g.met.K.Ord.total g.met.K.RunKey.exact (map arc_value c.args.runs.now) c.args.run c.loop-kept.own c.in_ok-own.own (arc_value last) c.loop-kept.kept (nat_eq c.loop-kept.kept 1) c.loop-kept.invariant c.loop-kept-test.true at
    (subst (λ l. IsOverride g.K.Ord.cmp (nat_eq c.loop-kept.kept 1) l c.loop-kept.own c.in_ok-own.own) c.deref.ensures c.in_ok-own.ensures) refl
