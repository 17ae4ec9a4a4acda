use Rattle.std.proofs.Common.{◌++◌, sym, subst, ◌∙◌, ap}
use Rattle.std.specs.Option.{option_map}
use Rattle.bmp_specs.specs.Orders.{nlri_cmp}
use Rattle.route_runs.specs.Override.{value_at}
use Rattle.route_runs.specs.Places.{shown, is_from, IsFirst}
use Rattle.route_runs.proofs.Halves.{joined_map, first_alone, from_low, not_from_high}
use Rattle.route_runs.proofs.table_cursor.from_in_both.Goals as goal

pub returns-in-V4-clause-first : goal.returns-in-V4-clause-first
returns-in-V4-clause-first c =
    let es = c.args.ipv4.now.pairs in
    let fs = c.args.ipv6.now.pairs in
    let of_low = sym c.family_of.ensures ∙ c.in-V4.is in
    subst (λ p. IsFirst nlri_cmp (is_from nlri_cmp p) (λ q. value_at nlri_cmp q (es ++ fs)) (option_map shown c.or_first_of_ipv6.result)) c.of.ensures
    (joined_map es fs c.requires (is_from nlri_cmp c.of.result) (λ q h. from_low c.of.result q (ap (λ n. n.prefix.address.family) c.of.ensures ∙ of_low) h) shown c.from.result (option_map shown c.or_first_of_ipv6.result) c.from.ensures.first c.or_first_of_ipv6.ensures.some c.or_first_of_ipv6.ensures.none)

pub returns-in-V6-clause-first : goal.returns-in-V6-clause-first
returns-in-V6-clause-first c =
    let es = c.args.ipv4.now.pairs in
    let fs = c.args.ipv6.now.pairs in
    let of_high = sym c.family_of.ensures ∙ c.in-V6.is in
    subst (λ p. IsFirst nlri_cmp (is_from nlri_cmp p) (λ q. value_at nlri_cmp q (es ++ fs)) (option_map shown c.pair.result)) c.of-in-V6.ensures
    (subst (λ r. IsFirst nlri_cmp (is_from nlri_cmp c.of-in-V6.result) (λ q. value_at nlri_cmp q (es ++ fs)) r) (sym c.pair.ensures)
    (first_alone es fs c.requires (is_from nlri_cmp c.of-in-V6.result) (λ q h. not_from_high c.of-in-V6.result q (ap (λ n. n.prefix.address.family) c.of-in-V6.ensures ∙ of_high) h) (option_map shown c.from-in-V6.result) c.from-in-V6.ensures.first))
