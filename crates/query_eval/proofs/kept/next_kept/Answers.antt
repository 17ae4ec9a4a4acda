use Rattle.query_lang.specs.TraitValues.{traits_value}
use Rattle.std.proofs.Common.{◌∙◌, subst, Decides}
use Rattle.ask_specs.specs.Traits.{HasTraits}
use Rattle.bmp_specs.specs.Values.{AttrsValue}
use Rattle.route_runs.specs.Places.{shown}
use Rattle.query_eval.specs.RowRuns.{front_of}
use Rattle.query_eval.proofs.KeptPairs.{first_kept, first_dropped}
use Rattle.query_eval.proofs.kept.next_kept.Goals as goal

pub returns-then-has_traits-clause-some : goal.returns-then-has_traits-clause-some
returns-then-has_traits-clause-some g c =
    let test = subst (λ (a : AttrsValue). Decides c.has_traits.result (HasTraits (traits_value c.args.traits.now) a)) c.deref.ensures c.has_traits.ensures in
    c.loop-found.invariant ∙ first_kept (traits_value c.args.traits.now) (shown c.in-Some.found) (front_of c.args.run.now (g.W.Pairs.left c.loop-found.walk)) (front_of c.args.run.now (g.W.Pairs.left c.next_in_run.new.walk)) c.has_traits.result test c.in-Some.ensures.some c.if-has_traits.true

pub loop-found-preserved : goal.loop-found-preserved
loop-found-preserved g c =
    let test = subst (λ (a : AttrsValue). Decides c.has_traits.result (HasTraits (traits_value c.args.traits.now) a)) c.deref.ensures c.has_traits.ensures in
    c.loop-found.invariant ∙ first_dropped (traits_value c.args.traits.now) (shown c.in-Some.found) (front_of c.args.run.now (g.W.Pairs.left c.loop-found.walk)) (front_of c.args.run.now (g.W.Pairs.left c.next_in_run.new.walk)) c.has_traits.result test c.in-Some.ensures.some c.if-has_traits.false
