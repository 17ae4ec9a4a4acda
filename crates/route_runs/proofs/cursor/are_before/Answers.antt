use Rattle.std.proofs.Common.{◌∙◌, sym, arith}
use Rattle.route_runs.proofs.Hints.{before_here, not_true}
use Rattle.route_runs.proofs.cursor.are_before.Goals as goal

pub returns : goal.returns
returns g c = λ e. before_here g.K.Ord.cmp g.met.K.Ord.total c.args.keys.now c.requires.sorted c.args.place.now c.args.at c.index-keys-at.result (omega (arith, c.if-at-eq0.false)) c.requires.within c.index-keys-at.is (sym c.is_less.ensures ∙ not_true c.is_less.result e)
