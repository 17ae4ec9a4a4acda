use Rattle.std.proofs.Common.{◌∙◌, ◌<◌, ◌≤◌, Some, drop, length, sym, ap, arith, rules}
use Rattle.std.specs.Option.{option_map}
use Rattle.route_runs.specs.Rows.{sets_of}
use Rattle.route_runs.specs.Sift.{front}
use Rattle.route_runs.proofs.SiftingRows.{drop_past, row_at}
use Rattle.route_runs.proofs.Handles.{length-rows}
use Rattle.route_runs.proofs.spots.key_in.Goals as goal

pub returns-then-at-len : goal.returns-then-at-len
returns-then-at-len g c =
    let lt : c.args.at < length c.run.inside.keys.items = search rules in
    ap Some c.index.ensures
    ∙ sym (ap (option_map (λ e. e.0)) (row_at (sets_of c.run.inside.packs.items) c.run.inside.keys.items c.run.inside.handles.items c.args.at c.index.result.now 0 c.run.invariant.even lt))
    ∙ ap (λ l. option_map (λ e. e.0) (front (drop c.args.at l))) c.run.view_is

pub returns-else-at-len : goal.returns-else-at-len
returns-else-at-len g c =
    let past : length c.run.inside.keys.items ≤ c.args.at = search rules in
    sym (ap (λ l. option_map (λ e. e.0) (front l)) (drop_past c.args.run.now c.args.at (omega (arith, past, ap length (sym c.run.view_is), length-rows (sets_of c.run.inside.packs.items) c.run.inside.keys.items c.run.inside.handles.items c.run.invariant.even))))
