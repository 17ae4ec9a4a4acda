use Rattle.std.proofs.Common.{◌∙◌, List, ap, sym, append-nil}
use Rattle.bmp_specs.specs.declared.wire.Family.{Family}
use Rattle.bmp_specs.specs.declared.wire.Family.TheVariants.{V4, V6}
use Rattle.bmp_specs.specs.Values.{AttrsValue, NlriValue}
use Rattle.route_runs.specs.Nlri.{with_family}
use Rattle.route_runs.specs.Sift.{sifted}
use Rattle.route_runs.proofs.Halves.{high_of_family, low_of_family}
use Rattle.route_runs.proofs.table.RouteTable.sift_of.Goals as goal

pub returns-in-V4 : goal.returns-in-V4
returns-in-V4 g c =
    let P = g.T.RouteTest.passes c.args.test.now in
    append-nil c.new.result ∙ c.new.ensures
    ∙ ap (λ (l : List (NlriValue × AttrsValue)). sifted P l)
    (c.rows.ensures ∙ sym (low_of_family c.self.inside.ipv4 c.self.inside.ipv6 c.self.invariant) ∙ ap (with_family V4) c.self.view_is ∙ ap (λ (f : Family). with_family f c.args.self.now) (sym c.in-V4.is))

pub returns-in-V6 : goal.returns-in-V6
returns-in-V6 g c =
    let P = g.T.RouteTest.passes c.args.test.now in
    c.new-in-V6.ensures
    ∙ ap (λ (l : List (NlriValue × AttrsValue)). sifted P l)
    (c.rows-in-V6.ensures ∙ sym (high_of_family c.self.inside.ipv4 c.self.inside.ipv6 c.self.invariant) ∙ ap (with_family V6) c.self.view_is ∙ ap (λ (f : Family). with_family f c.args.self.now) (sym c.in-V6.is))
