use Rattle.std.proofs.Common.{◌∙◌, map, ap}
use Rattle.std.specs.Arc.{arc_value}
use Rattle.route_runs.specs.Runs.{contents}
use Rattle.route_runs.specs.Sift.{sifted}
use Rattle.route_runs.proofs.Left.{all_pass}
use Rattle.route_runs.proofs.sift.Sift.new.Goals as goal

pub returns : goal.returns
returns g c =
    let P = g.T.RouteTest.passes c.args.test.now in
    all_pass (sifted P (contents g.K.Ord.cmp (map arc_value c.as_slice-runs.result.now)))
    ∙ ap (λ l. sifted P (contents g.K.Ord.cmp (map arc_value l))) c.as_slice-runs.ensures.value ∙ ap (sifted P) c.runs.view_is
