use Rattle.std.proofs.Common.{◌≡◌, ◌/◌, subst, ◌∙◌}
use Rattle.std.specs.Option.{IfSome}
use Rattle.bmp_specs.specs.Address.{prefix_at}
use Rattle.bmp_specs.specs.Values.{PrefixValue}
use Rattle.route_runs.proofs.NumberBytes.{nlri_back}
use Rattle.route_runs.proofs.nlri_key.NlriKey.nlri.Goals as goal

pub returns : goal.returns
returns g c =
    let whole : c.unwrap-prefix.result ≡ prefix_at c.addr-addr.result (c.self.inside.bits / 2) = subst (λ r. IfSome r (λ (p : PrefixValue). p ≡ prefix_at c.addr-addr.result (c.self.inside.bits / 2))) c.unwrap-prefix.ensures c.new.ensures.value in
    record {
      same = nlri_back c.addr-addr.result g.N.KeyAddress.family (g.N.KeyAddress.octets c.self.inside.address) c.self.inside.bits c.self.inside.id _ _ c.addr-addr.ensures.family c.addr-addr.ensures.octets c.self.invariant.prefix.clear whole c.unmarked-id.ensures ∙ c.self.view_is;
    }
