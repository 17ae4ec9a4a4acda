use Rattle.std.proofs.Common.{◌∙◌, sym, arith}
use Rattle.route_runs.proofs.Rising.{rises_one, rises_more, rises_to_end}
use Rattle.route_runs.proofs.Searching.{less_is}
use Rattle.route_runs.proofs.many.keys_rise.Goals as goal

pub loop-at-init : goal.loop-at-init
loop-at-init g c = rises_one g.K.Ord.cmp c.args.keys.now

pub loop-at-preserved : goal.loop-at-preserved
loop-at-preserved g c =
    rises_more g.K.Ord.cmp c.args.keys.now c.loop-at.at c.index-keys-at.result c.index-keys-at-in-loop-at.result (omega (arith, c.loop-at.auto.at)) c.loop-at-test.true c.index-keys-at.is c.index-keys-at-in-loop-at.is
    (sym c.cmp.ensures ∙ less_is _ (sym c.is_lt.ensures ∙ c.if-not-is_lt.false)) c.loop-at.invariant

pub returns : goal.returns
returns g c = λ _. rises_to_end g.K.Ord.cmp g.met.K.Ord.total c.args.keys.now c.loop-at.at c.loop-at-test.false c.loop-at.invariant
