use Rattle.std.proofs.Common.{◌∙◌, ap, sym}
use Rattle.bmp_specs.specs.Orders.{nlri_cmp}
use Rattle.route_runs.specs.Override.{value_at}
use Rattle.route_runs.proofs.Halves.{value_low, value_high}
use Rattle.route_runs.proofs.table.RouteTable.get.Goals as goal

pub returns-in-V4 : goal.returns-in-V4
returns-in-V4 c =
    c.get.ensures ∙ ap (λ q. value_at nlri_cmp q c.self.inside.ipv4) c.of.ensures
    ∙ sym (value_low c.self.inside.ipv4 c.self.inside.ipv6 c.self.invariant c.args.nlri.now (sym c.family_of.ensures ∙ c.in-V4.is))
    ∙ ap (value_at nlri_cmp c.args.nlri.now) c.self.view_is

pub returns-in-V6 : goal.returns-in-V6
returns-in-V6 c =
    c.get-in-V6.ensures ∙ ap (λ q. value_at nlri_cmp q c.self.inside.ipv6) c.of-in-V6.ensures
    ∙ sym (value_high c.self.inside.ipv4 c.self.inside.ipv6 c.self.invariant c.args.nlri.now (sym c.family_of.ensures ∙ c.in-V6.is))
    ∙ ap (value_at nlri_cmp c.args.nlri.now) c.self.view_is
