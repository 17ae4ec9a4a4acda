use Rattle.std.proofs.Common.{ap, sym}
use Rattle.std.specs.Arc.{arc_value}
use Rattle.recent_ring.specs.Recent.{RecentValue, joined}
use Rattle.recent_ring.proofs.TwoParts.{pushed_items, pushed_ring}
use Rattle.recent_ring.proofs.ring.Recent.push.Goals as goal

pub returns-clause-items : goal.returns-clause-items
returns-clause-items g c =
    let seen = ap (λ (r : RecentValue _). r.items) c.self.view_is in
    pushed_items (joined (arc_value c.self.inside.older).items) c.self.inside.newer c.push_back.new.self c.args.self.now c.args.item c.self.invariant.0 seen c.push_back.ensures.items

pub returns-clause-list : goal.returns-clause-list
returns-clause-list g c = λ all is.
    let seen = ap (λ (r : RecentValue _). r.items) c.self.view_is in
    let total = ap (λ (r : RecentValue _). r.total) c.self.view_is in
    pushed_ring all _ c.args.self.now c.args.item c.saturating_add-self-inside.result is (rw (sym total) c.saturating_add-self-inside.ensures) (pushed_items (joined (arc_value c.self.inside.older).items) c.self.inside.newer c.push_back.new.self c.args.self.now c.args.item c.self.invariant.0 seen c.push_back.ensures.items)
