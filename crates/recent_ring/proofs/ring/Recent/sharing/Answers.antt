use Rattle.std.proofs.Common.{ap, sym, subst, ◌++◌}
use Rattle.std.specs.Arc.{arc_value}
use Rattle.std.specs.List.{AllZip}
use Rattle.std.specs.declared.vec.Vec.{Vec}
use Rattle.recent_ring.specs.Recent.{RecentValue, joined, last_items}
use Rattle.recent_ring.proofs.TwoParts.{shared_copy}
use Rattle.recent_ring.proofs.ring.Recent.sharing.Goals as goal

pub returns : goal.returns
returns g c =
    let alike = g.T.Keep.alike in
    let seen = ap (λ (r : RecentValue _). r.items) c.self.view_is in
    record {
      total = ap (λ (r : RecentValue _). r.total) c.self.view_is;
      items = subst (λ (older : Vec _ _). AllZip alike c.args.self.now.items (last_items (joined older.items ++ c.in_ok-newer.newer.items))) (sym c.in_ok-try_clone.ensures)
          (shared_copy alike g.met.T.Keep.same (joined (arc_value c.self.inside.older).items) c.self.inside.newer.items c.in_ok-newer.newer.items c.args.self.now.items seen c.in_ok-newer.ensures.items);
    }
