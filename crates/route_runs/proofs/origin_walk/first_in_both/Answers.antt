use Rattle.std.proofs.Common.{◌++◌, ◌∙◌, ap, sym, subst}
use Rattle.std.specs.Option.{option_map}
use Rattle.bmp_specs.specs.Orders.{nlri_cmp}
use Rattle.route_runs.specs.Origins.{passes, with_origin}
use Rattle.route_runs.specs.Override.{value_at}
use Rattle.route_runs.specs.Places.{shown, IsFirst}
use Rattle.route_runs.proofs.Halves.{joined_map, first_alone}
use Rattle.route_runs.proofs.OriginHalves.{first_with, with_cat, with_halves, passes_low, not_passes_high}
use Rattle.route_runs.proofs.origin_walk.first_in_both.Goals as goal

pub returns-in-V4-clause-first : goal.returns-in-V4-clause-first
returns-in-V4-clause-first c =
    let asn = c.args.asn in
    let es = c.args.ipv4.now in
    let fs = c.args.ipv6.now in
    let test = passes nlri_cmp c.args.at c.of.result in
    let of_low = ap (λ n. n.prefix.address.family) c.of.ensures ∙ sym c.family_of.ensures ∙ c.in-V4.is in
    let joined = joined_map (with_origin asn es) (with_origin asn fs) (with_halves asn es fs c.see_order.ensures c.see_order-2.ensures c.requires) test (λ q h. passes_low c.args.at c.of.result q of_low h) shown c.first.result (option_map shown c.or_first_of_ipv6.result)
    (first_with asn test es c.see_order.ensures (option_map shown c.first.result) c.first.ensures.first) c.or_first_of_ipv6.ensures.some c.or_first_of_ipv6.ensures.none in
    subst (λ n. IsFirst nlri_cmp (passes nlri_cmp c.args.at n) (λ q. value_at nlri_cmp q (with_origin asn (es ++ fs))) (option_map shown c.or_first_of_ipv6.result)) c.of.ensures
    (subst (λ l. IsFirst nlri_cmp test (λ q. value_at nlri_cmp q l) (option_map shown c.or_first_of_ipv6.result)) (with_cat asn es fs) joined)

pub returns-in-V6-clause-first : goal.returns-in-V6-clause-first
returns-in-V6-clause-first c =
    let asn = c.args.asn in
    let es = c.args.ipv4.now in
    let fs = c.args.ipv6.now in
    let test = passes nlri_cmp c.args.at c.of-in-V6.result in
    let of_high = ap (λ n. n.prefix.address.family) c.of-in-V6.ensures ∙ sym c.family_of.ensures ∙ c.in-V6.is in
    let alone = first_alone (with_origin asn es) (with_origin asn fs) (with_halves asn es fs c.see_order.ensures c.see_order-2.ensures c.requires) test (λ q h. not_passes_high c.args.at c.of-in-V6.result q of_high h) (option_map shown c.first-in-V6.result)
    (first_with asn test fs c.see_order-2.ensures (option_map shown c.first-in-V6.result) c.first-in-V6.ensures.first) in
    subst (λ n. IsFirst nlri_cmp (passes nlri_cmp c.args.at n) (λ q. value_at nlri_cmp q (with_origin asn (es ++ fs))) (option_map shown c.pair.result)) c.of-in-V6.ensures
    (subst (λ r. IsFirst nlri_cmp test (λ q. value_at nlri_cmp q (with_origin asn (es ++ fs))) r) (sym c.pair.ensures)
    (subst (λ l. IsFirst nlri_cmp test (λ q. value_at nlri_cmp q l) (option_map shown c.first-in-V6.result)) (with_cat asn es fs) alone))
