use Rattle.std.proofs.Common.{◌<◌, ◌∙◌, length, sym, arith}
use Rattle.route_runs.proofs.Hints.{behind_here}
use Rattle.route_runs.proofs.cursor.are_behind.Goals as goal

pub returns : goal.returns
returns g c =
    let lt : c.args.at < length c.args.keys.now = omega (arith, c.if-at-keys.false, c.requires.within) in
    λ e. behind_here g.K.Ord.cmp g.met.K.Ord.total c.args.keys.now c.requires.sorted c.args.place.now c.args.at c.index-keys-at.result lt c.index-keys-at.is (sym c.is_less.ensures ∙ e)
