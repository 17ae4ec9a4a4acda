use Rattle.std.proofs.Common.{◌+◌, ◌*◌, ℕ, ap, ◌∙◌}
use Rattle.bmp_specs.specs.Values.{AddressValue, NlriValue}
use Rattle.route_runs.specs.NumberKeys.{mark_of}
use Rattle.route_runs.proofs.NumberBytes.{key_is, key_valid}
use Rattle.route_runs.proofs.nlri_key.NlriKey.of.Goals as goal

pub invariant_of-result : goal.invariant_of-result
invariant_of-result g c =
    let v : NlriValue = record { prefix = c.nlri.inside.prefix; id = c.nlri.inside.id } in
    key_valid g.N.KeyAddress.octets g.N.KeyAddress.number v g.N.KeyAddress.family c.of-address.result c.marked-bits.result.0 c.marked-bits.result.1 (ap (λ (w : NlriValue). w.prefix.address.family) c.nlri.view_is ∙ c.requires)
    (c.of-address.ensures.octets ∙ ap (λ (a : AddressValue). a.octets) c.addr.ensures)
    (c.marked-bits.ensures.bits ∙ ap (λ (n : ℕ). n * 2 + mark_of v.id) c.bits.ensures.same)
    c.marked-bits.ensures.id c.bits.ensures.valid c.of-address.ensures.back c.marked-bits.ensures.fits

pub returns : goal.returns
returns g c =
    let v : NlriValue = record { prefix = c.nlri.inside.prefix; id = c.nlri.inside.id } in
    key_is g.N.KeyAddress.octets g.N.KeyAddress.number v g.N.KeyAddress.family c.of-address.result c.marked-bits.result.0 c.marked-bits.result.1 (ap (λ (w : NlriValue). w.prefix.address.family) c.nlri.view_is ∙ c.requires)
    (c.of-address.ensures.octets ∙ ap (λ (a : AddressValue). a.octets) c.addr.ensures)
    (c.marked-bits.ensures.bits ∙ ap (λ (n : ℕ). n * 2 + mark_of v.id) c.bits.ensures.same)
    c.marked-bits.ensures.id
    ∙ c.nlri.view_is
