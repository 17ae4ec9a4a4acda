use Rattle.std.proofs.Common.{◌∙◌, ap, sym}
use Rattle.std.specs.List.{filter}
use Rattle.bmp_specs.specs.Orders.{nlri_cmp}
use Rattle.route_runs.specs.Origins.{with_origin}
use Rattle.route_runs.specs.Places.{is_from}
use Rattle.route_runs.specs.Walk.{pairs_from}
use Rattle.route_runs.proofs.WithOrigin.{all_from_least}
use Rattle.route_runs.proofs.table.RouteTable.origin.Goals as goal

pub returns-in-First : goal.returns-in-First
returns-in-First c =
    c.origin_walk.ensures.left ∙ ap (λ n. filter (λ e. is_from nlri_cmp n e.0) (with_origin c.args.asn c.args.self.now)) c.least.ensures
    ∙ all_from_least c.args.asn c.args.self.now c.origin_walk.ensures.nlri ∙ sym (ap (λ p. pairs_from p (with_origin c.args.asn c.args.self.now)) c.in-First.is)
