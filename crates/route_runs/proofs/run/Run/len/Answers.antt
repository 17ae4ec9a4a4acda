use Rattle.std.proofs.Common.{◌≡◌, ◌∙◌, ap, sym, length, rules}
use Rattle.route_runs.specs.Rows.{sets_of}
use Rattle.route_runs.proofs.Handles.{length-rows}
use Rattle.route_runs.proofs.run.Run.len.Goals as goal

pub returns : goal.returns
returns g c =
    let rows = length-rows (sets_of c.self.inside.packs.items) c.self.inside.keys.items c.self.inside.handles.items c.self.invariant.even in
    let n : c.len.result ≡ length c.self.inside.keys.items = search rules in
    n ∙ sym rows ∙ ap length c.self.view_is
