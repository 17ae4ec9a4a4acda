use Rattle.std.proofs.Common.{true, sym, subst}
use Rattle.std.specs.Option.{option_map}
use Rattle.bmp_specs.specs.Orders.{nlri_cmp}
use Rattle.route_runs.specs.Origins.{attrs_origin, of_origin, with_origin, least_high}
use Rattle.route_runs.specs.Override.{value_at}
use Rattle.route_runs.specs.Places.{shown, is_from, IsFirst}
use Rattle.route_runs.proofs.OriginHalves.{all_of_high, first_with, high_with}
use Rattle.route_runs.proofs.origin_walk.or_first_of_ipv6.Goals as goal

pub returns-clause-none : goal.returns-clause-none
returns-clause-none c = λ none.
    let fs = c.args.ipv6.now in
    let found = subst (λ n. IsFirst nlri_cmp (is_from nlri_cmp n) (λ q. of_origin attrs_origin c.args.asn (value_at nlri_cmp q fs)) (option_map shown c.first.result)) c.least_of_ipv6.ensures c.first.ensures.first in
    subst (λ r. IsFirst nlri_cmp (λ q. true) (λ q. value_at nlri_cmp q (with_origin c.args.asn fs)) r) (sym c.pair-2.ensures)
    (all_of_high (with_origin c.args.asn fs) (high_with c.args.asn fs c.see_order.ensures c.requires) (option_map shown c.first.result) (first_with c.args.asn (is_from nlri_cmp least_high) fs c.see_order.ensures (option_map shown c.first.result) found))
