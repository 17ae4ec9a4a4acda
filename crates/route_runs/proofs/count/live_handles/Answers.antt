use Rattle.std.proofs.Common.{◌∙◌, length, ap}
use Rattle.std.specs.List.{filter}
use Rattle.std.proofs.lemmas.List.{take_all}
use Rattle.route_runs.specs.Rows.{is_live}
use Rattle.route_runs.proofs.count.live_handles.Goals as goal

pub returns : goal.returns
returns c = c.loop-at.invariant.sum ∙ ap (λ l. length (filter is_live l)) (take_all c.loop-at.at c.args.handles.now c.loop-at-test.false)
