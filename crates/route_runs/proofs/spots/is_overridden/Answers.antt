use Rattle.std.proofs.Common.{◌∙◌, ◌+◌, map, ap, sym}
use Rattle.std.specs.Arc.{arc_value}
use Rattle.std.specs.Option.{is_some}
use Rattle.std.proofs.lemmas.List.{drop-map, take_rest}
use Rattle.route_runs.specs.Runs.{latest}
use Rattle.route_runs.proofs.spots.is_overridden.Goals as goal

pub returns : goal.returns
returns g c =
    c.is_in.ensures ∙ ap (λ l. is_some (latest g.K.Ord.cmp c.args.key.now (map arc_value l))) (take_rest c.args.runs.now (c.args.number + 1))
    ∙ ap (λ l. is_some (latest g.K.Ord.cmp c.args.key.now l)) (sym (drop-map arc_value (c.args.number + 1) c.args.runs.now))
