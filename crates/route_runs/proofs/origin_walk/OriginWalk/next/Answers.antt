use Rattle.std.proofs.Common.{◌++◌, ◌∙◌, None, option_to_list, ap, sym}
use Rattle.std.specs.Option.{option_map}
use Rattle.bmp_specs.specs.Orders.{nlri_cmp}
use Rattle.route_runs.specs.Places.{shown}
use Rattle.route_runs.specs.Walk.{left}
use Rattle.route_runs.proofs.Halves.{rising_cat}
use Rattle.route_runs.proofs.Left.{none_exactly}
use Rattle.route_runs.proofs.WithOrigin.{origin_next, origin_ended, walking}
use Rattle.route_runs.proofs.origin_walk.OriginWalk.next.Goals as goal

pub returns-clause-next : goal.returns-clause-next
returns-clause-next c =
    let es = c.self.inside.ipv4 in
    let fs = c.self.inside.ipv6 in
    origin_next c.self.inside.asn (es ++ fs) c.args.self.now (rising_cat es fs c.self.invariant c.see_order.ensures c.see_order-2.ensures) c.self.inside.place (option_map shown c.first_in_both-found.result) c.self.inside.at c.place_after-last.result c.self.view_is c.first_in_both-found.ensures.first c.place_after-last.ensures
    ∙ ap (λ l. option_to_list (option_map shown c.first_in_both-found.result) ++ left nlri_cmp None (walking c.self.inside.asn c.place_after-last.result l))
    (sym (ap (λ l. l ++ c.first_in_both-found.new.ipv6) c.first_in_both-found.ensures.ipv4 ∙ ap (λ l. es ++ l) c.first_in_both-found.ensures.ipv6))

pub returns-clause-none : goal.returns-clause-none
returns-clause-none c =
    let es = c.self.inside.ipv4 in
    let fs = c.self.inside.ipv6 in
    none_exactly shown c.first_in_both-found.result c.args.self.now _ (returns-clause-next c)
    (origin_ended c.self.inside.asn (es ++ fs) c.args.self.now (rising_cat es fs c.self.invariant c.see_order.ensures c.see_order-2.ensures) c.self.inside.place (option_map shown c.first_in_both-found.result) c.self.inside.at c.self.view_is c.first_in_both-found.ensures.first)
