use Rattle.std.proofs.Common.{◌∙◌, map, ap, sym}
use Rattle.std.specs.Arc.{arc_value}
use Rattle.std.specs.Option.{option_map}
use Rattle.route_runs.specs.Override.{value_at}
use Rattle.route_runs.specs.Places.{turned, is_from, shown}
use Rattle.route_runs.specs.Runs.{latest, seen}
use Rattle.route_runs.proofs.Contents.{value-contents}
use Rattle.route_runs.proofs.Searching.{first_ext}
use Rattle.route_runs.proofs.runs.Runs.at_or_before.Goals as goal

pub returns : goal.returns
returns g c =
    let cmp = g.K.Ord.cmp in
    first_ext (turned cmp) (is_from (turned cmp) c.args.place.now) _ (λ q. value_at cmp q c.args.self.now) (option_map shown c.last_live_up_to.result)
    (λ q. ap (value_at cmp q) (sym c.self.view_is) ∙ value-contents cmp g.met.K.Ord.total g.met.K.RunKey.exact q (map arc_value c.self.inside.runs.items) ∙ ap (λ l. seen (latest cmp q (map arc_value l))) (sym c.as_slice.ensures.value)) c.last_live_up_to.ensures
