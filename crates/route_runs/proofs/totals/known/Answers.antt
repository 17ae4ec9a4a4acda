use Rattle.std.proofs.Common.{◌∙◌, length, map, ap, sym}
use Rattle.std.specs.Arc.{arc_value}
use Rattle.std.specs.List.{filter}
use Rattle.std.specs.Map.{keys_of}
use Rattle.std.specs.Option.{is_some}
use Rattle.route_runs.specs.Rows.{sets_of}
use Rattle.route_runs.specs.Runs.{latest, seen}
use Rattle.route_runs.proofs.Handles.{keys-rows}
use Rattle.route_runs.proofs.totals.known.Goals as goal

pub returns : goal.returns
returns g c =
    c.hits.ensures ∙ ap (λ l. length (filter (λ k. is_some (seen (latest g.K.Ord.cmp k (map arc_value c.args.earlier.now)))) l))
    (c.deref.ensures.value ∙ sym (keys-rows (sets_of c.run.inside.packs.items) c.run.inside.keys.items c.run.inside.handles.items c.run.invariant.even) ∙ ap keys_of c.run.view_is)
