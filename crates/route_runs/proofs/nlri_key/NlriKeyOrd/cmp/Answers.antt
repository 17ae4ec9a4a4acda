use Rattle.std.proofs.Common.{◌≡◌, ◌∙◌, sym, nat_cmp}
use Rattle.std.specs.declared.cmp.Ordering.TheVariants.{Equal}
use Rattle.std.specs.Ordering.{ordering_then}
use Rattle.bmp_specs.specs.Orders.{nlri_cmp}
use Rattle.route_runs.specs.AddressOrder.{first_decides, next_decides}
use Rattle.route_runs.proofs.Hints.{equal_is}
use Rattle.route_runs.proofs.NumberOrder.{key_cmp, other_decides}
use Rattle.route_runs.proofs.nlri_key.NlriKeyOrd.cmp.Goals as goal

pub returns-then-self-other : goal.returns-then-self-other
returns-then-self-other g c =
    let x = c.self.inside in
    let y = c.other.inside in
    let addresses = g.met.N.KeyAddress.in_order x.address y.address c.self.invariant.address_back c.other.invariant.address_back c.self.invariant.prefix.address c.other.invariant.prefix.address in
    let same : g.N.Ord.cmp x.address y.address ≡ Equal = equal_is _ (sym (g.met.N.Ord.matches_eq x.address y.address) ∙ sym c.eq.ensures ∙ c.if-eq.true) in
    c.cmp.ensures ∙ next_decides _ _ _ c.if-self-other.true
    ∙ key_cmp g.N.KeyAddress.family (g.N.KeyAddress.octets x.address) (g.N.KeyAddress.octets y.address) x.bits y.bits x.id y.id c.self.invariant.no_id c.other.invariant.no_id Equal (sym same ∙ addresses)
    ∙ (λ i. nlri_cmp (c.self.view_is i) (c.other.view_is i))

pub returns-then-eq : goal.returns-then-eq
returns-then-eq g c =
    let x = c.self.inside in
    let y = c.other.inside in
    let addresses = g.met.N.KeyAddress.in_order x.address y.address c.self.invariant.address_back c.other.invariant.address_back c.self.invariant.prefix.address c.other.invariant.prefix.address in
    let same : g.N.Ord.cmp x.address y.address ≡ Equal = equal_is _ (sym (g.met.N.Ord.matches_eq x.address y.address) ∙ sym c.eq.ensures ∙ c.if-eq.true) in
    c.cmp-then-eq.ensures ∙ first_decides _ _ _ c.if-self-other.false
    ∙ key_cmp g.N.KeyAddress.family (g.N.KeyAddress.octets x.address) (g.N.KeyAddress.octets y.address) x.bits y.bits x.id y.id c.self.invariant.no_id c.other.invariant.no_id Equal (sym same ∙ addresses)
    ∙ (λ i. nlri_cmp (c.self.view_is i) (c.other.view_is i))

pub returns : goal.returns
returns g c =
    let x = c.self.inside in
    let y = c.other.inside in
    let addresses = g.met.N.KeyAddress.in_order x.address y.address c.self.invariant.address_back c.other.invariant.address_back c.self.invariant.prefix.address c.other.invariant.prefix.address in
    let order = g.N.Ord.cmp x.address y.address in
    c.cmp-2.ensures ∙ other_decides order (ordering_then (nat_cmp x.bits y.bits) (nat_cmp x.id y.id)) (sym (g.met.N.Ord.matches_eq x.address y.address) ∙ sym c.eq.ensures ∙ c.if-eq.false)
    ∙ key_cmp g.N.KeyAddress.family (g.N.KeyAddress.octets x.address) (g.N.KeyAddress.octets y.address) x.bits y.bits x.id y.id c.self.invariant.no_id c.other.invariant.no_id order addresses
    ∙ (λ i. nlri_cmp (c.self.view_is i) (c.other.view_is i))
