use Rattle.std.proofs.Common.{None, Some, ◌++◌, sym, subst, refl, ◌∙◌, ap}
use Rattle.std.specs.Option.{option_map}
use Rattle.bmp_specs.specs.Orders.{nlri_cmp}
use Rattle.route_runs.specs.Override.{value_at}
use Rattle.route_runs.specs.Places.{shown, is_after, IsFirst}
use Rattle.route_runs.proofs.Halves.{joined_map, first_alone, after_low, not_after_high}
use Rattle.route_runs.proofs.table_cursor.next_in_both.Goals as goal

pub returns-in_default-clause-first : goal.returns-in_default-clause-first
returns-in_default-clause-first c =
    let es = c.args.ipv4.now.pairs in
    let fs = c.args.ipv6.now.pairs in
    subst (λ p. IsFirst nlri_cmp (is_after nlri_cmp p) (λ q. value_at nlri_cmp q (es ++ fs)) (option_map shown c.or_first_of_ipv6.result)) (sym c.in_default.is)
    (joined_map es fs c.requires (is_after nlri_cmp None) (λ q h. refl) shown c.after.result (option_map shown c.or_first_of_ipv6.result) c.after.ensures.first c.or_first_of_ipv6.ensures.some c.or_first_of_ipv6.ensures.none)

pub returns-in-V4-clause-first : goal.returns-in-V4-clause-first
returns-in-V4-clause-first c =
    let es = c.args.ipv4.now.pairs in
    let fs = c.args.ipv6.now.pairs in
    let of_low = sym c.family_of.ensures ∙ c.in-V4.is in
    subst (λ p. IsFirst nlri_cmp (is_after nlri_cmp p) (λ q. value_at nlri_cmp q (es ++ fs)) (option_map shown c.or_first_of_ipv6-in-V4.result)) (ap Some c.of.ensures ∙ sym c.in-Some.is)
    (joined_map es fs c.requires (is_after nlri_cmp (Some c.of.result)) (λ q h. after_low c.of.result q (ap (λ n. n.prefix.address.family) c.of.ensures ∙ of_low) h) shown c.after-in-V4.result (option_map shown c.or_first_of_ipv6-in-V4.result) c.after-in-V4.ensures.first c.or_first_of_ipv6-in-V4.ensures.some c.or_first_of_ipv6-in-V4.ensures.none)

pub returns-in-V6-clause-first : goal.returns-in-V6-clause-first
returns-in-V6-clause-first c =
    let es = c.args.ipv4.now.pairs in
    let fs = c.args.ipv6.now.pairs in
    let of_high = sym c.family_of.ensures ∙ c.in-V6.is in
    subst (λ p. IsFirst nlri_cmp (is_after nlri_cmp p) (λ q. value_at nlri_cmp q (es ++ fs)) (option_map shown c.pair.result)) (ap Some c.of-in-V6.ensures ∙ sym c.in-Some.is)
    (subst (λ r. IsFirst nlri_cmp (is_after nlri_cmp (Some c.of-in-V6.result)) (λ q. value_at nlri_cmp q (es ++ fs)) r) (sym c.pair.ensures)
    (first_alone es fs c.requires (is_after nlri_cmp (Some c.of-in-V6.result)) (λ q h. not_after_high c.of-in-V6.result q (ap (λ n. n.prefix.address.family) c.of-in-V6.ensures ∙ of_high) h) (option_map shown c.after-in-V6.result) c.after-in-V6.ensures.first))
