use Rattle.std.proofs.Common.{subst}
use Rattle.std.specs.Arc.{arc_value}
use Rattle.std.specs.Option.{option_map}
use Rattle.bmp_specs.proofs.OrderLaws.{nlri_total}
use Rattle.bmp_specs.specs.Orders.{nlri_cmp}
use Rattle.route_runs.specs.Gathering.{gathered}
use Rattle.route_runs.specs.Layers.{all_to, last_rows, IsLayered}
use Rattle.route_runs.specs.Nlri.{of_family}
use Rattle.route_runs.proofs.Listing.{listed_handles, listed_more}
use Rattle.route_runs.proofs.listed_nlri.Listed+NlriKey+N+A.add.Goals as goal

pub invariant_of-result : goal.invariant_of-result
invariant_of-result g c =
    listed_handles (gathered c.self.inside.sets.packs.items c.self.inside.sets.now.items) (gathered c.added.new.out.packs.items c.added.new.out.now.items) (option_map arc_value c.args.set) c.in_ok-handle.handle c.in_ok-handle.ensures
    c.self.inside.rows.items c.list.new.rows.items (of_family g.N.KeyAddress.family c.args.nlris.now) c.in_ok-list.ensures c.self.invariant

pub returns : goal.returns
returns g c =
    let set = option_map arc_value c.args.set in
    let new = gathered c.added.new.out.packs.items c.added.new.out.now.items in
    subst (λ l. IsLayered nlri_cmp l (all_to (of_family g.N.KeyAddress.family c.args.nlris.now) set) (last_rows nlri_cmp new c.list.new.rows.items)) c.self.view_is
    (listed_more (gathered c.self.inside.sets.packs.items c.self.inside.sets.now.items) new set c.in_ok-handle.handle c.in_ok-handle.ensures
    c.self.inside.rows.items c.list.new.rows.items (of_family g.N.KeyAddress.family c.args.nlris.now) c.in_ok-list.ensures c.self.invariant nlri_cmp nlri_total)
