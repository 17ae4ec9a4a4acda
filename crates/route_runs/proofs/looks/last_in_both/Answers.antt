use Rattle.std.proofs.Common.{◌++◌, sym, subst, ◌∙◌, ap}
use Rattle.std.specs.Option.{option_map}
use Rattle.bmp_specs.specs.Orders.{nlri_cmp}
use Rattle.route_runs.specs.Override.{value_at}
use Rattle.route_runs.specs.Places.{shown, turned, is_from, IsFirst}
use Rattle.route_runs.proofs.LastOfHalves.{joined_last, last_alone, up_to_high, not_up_to_low}
use Rattle.route_runs.proofs.looks.last_in_both.Goals as goal

pub returns-in-V4 : goal.returns-in-V4
returns-in-V4 c =
    let es = c.args.ipv4.now in
    let fs = c.args.ipv6.now in
    let of_low = sym c.family_of.ensures ∙ c.in-V4.is in
    subst (λ p. IsFirst (turned nlri_cmp) (is_from (turned nlri_cmp) p) (λ q. value_at nlri_cmp q (es ++ fs)) (option_map shown c.pair.result)) c.of.ensures
    (subst (λ r. IsFirst (turned nlri_cmp) (is_from (turned nlri_cmp) c.of.result) (λ q. value_at nlri_cmp q (es ++ fs)) r) (sym c.pair.ensures)
    (last_alone es fs c.requires (is_from (turned nlri_cmp) c.of.result) (λ q h. not_up_to_low c.of.result q (ap (λ n. n.prefix.address.family) c.of.ensures ∙ of_low) h) (option_map shown c.at_or_before.result) c.at_or_before.ensures))

pub returns-in-V6 : goal.returns-in-V6
returns-in-V6 c =
    let es = c.args.ipv4.now in
    let fs = c.args.ipv6.now in
    let of_high = sym c.family_of.ensures ∙ c.in-V6.is in
    subst (λ p. IsFirst (turned nlri_cmp) (is_from (turned nlri_cmp) p) (λ q. value_at nlri_cmp q (es ++ fs)) (option_map shown c.or_last_of_ipv4.result)) c.of-in-V6.ensures
    (joined_last es fs c.requires (is_from (turned nlri_cmp) c.of-in-V6.result) (λ q h. up_to_high c.of-in-V6.result q (ap (λ n. n.prefix.address.family) c.of-in-V6.ensures ∙ of_high) h) shown c.at_or_before-in-V6.result (option_map shown c.or_last_of_ipv4.result) c.at_or_before-in-V6.ensures c.or_last_of_ipv4.ensures.some c.or_last_of_ipv4.ensures.none)
