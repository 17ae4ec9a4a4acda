use Rattle.std.proofs.Common.{◌∙◌, sym, arith}
use Rattle.std.specs.Map.{keys_of}
use Rattle.route_runs.proofs.Rising.{rises_one, rows_more, rows_to_end}
use Rattle.route_runs.proofs.Searching.{less_is}
use Rattle.route_runs.proofs.listed.are_rising.Goals as goal

pub loop-at-init : goal.loop-at-init
loop-at-init g c = rises_one g.K.Ord.cmp (keys_of c.args.rows.now)

pub loop-at-preserved : goal.loop-at-preserved
loop-at-preserved g c =
    rows_more g.K.Ord.cmp c.args.rows.now c.loop-at.at c.index-rows-at.result c.index-rows-at-in-loop-at.result (omega (arith, c.loop-at.auto.at)) c.loop-at-test.true c.index-rows-at.is c.index-rows-at-in-loop-at.is
    (sym c.cmp.ensures ∙ less_is _ (sym c.is_lt.ensures ∙ c.if-not-is_lt.false)) c.loop-at.invariant

pub returns : goal.returns
returns g c = λ _. rows_to_end g.K.Ord.cmp g.met.K.Ord.total c.args.rows.now c.loop-at.at c.loop-at-test.false c.loop-at.invariant
