use Rattle.std.proofs.Common.{◌≡◌, ◌∙◌, ◌-◌, ◌+◌, ◌++◌, length, min, ◌^◌, ap, sym, subst, arith, append-nil}
use Rattle.std.specs.Arc.{arc_value}
use Rattle.std.specs.List.{AllZip}
use Rattle.std.specs.declared.vec.Vec.{Vec}
use Rattle.circular_buffer.specs.Buffer.{Buffer}
use Rattle.recent_ring.specs.Recent.{RecentValue, joined, last_items}
use Rattle.recent_ring.proofs.Joined.{joined_push}
use Rattle.recent_ring.proofs.MoreItems.{length_copy, copy_of_all}
use Rattle.recent_ring.proofs.ring.Recent.with_last.Goals as goal

alike_items : (g : _) (c : goal.In_ok-with_capacity g) → AllZip g.T.Keep.alike (last_items (c.args.self.now.items ++ c.args.last.items)) (last_items (joined (arc_value c.in_ok-new-2.field-0).items ++ c.in_ok-with_capacity.field-0.items))
alike_items g c =
    let alike = g.T.Keep.alike in
    let last = c.args.last.items in
    let wanted = last_items (c.args.self.now.items ++ last) in
    let pieces : AllZip alike wanted (last_items (joined c.in_ok-older.older.items ++ last)) = c.in_ok-older.ensures last (omega (arith, c.saturating_sub.ensures, c.len-count.ensures)) in
    let is : joined (arc_value c.in_ok-new-2.field-0).items ≡ joined c.in_ok-older.older.items ++ last =
    ap (λ (v : Vec _ _). joined v.items) c.in_ok-new-2.ensures.ok ∙ ap joined c.in_ok-push.ensures.items ∙ joined_push c.in_ok-older.older.items c.in_ok-new.field-0 ∙ ap (λ (v : Vec _ _). joined c.in_ok-older.older.items ++ v.items) c.in_ok-new.ensures.ok in
    subst (λ (b : Buffer _). AllZip alike wanted (last_items (joined (arc_value c.in_ok-new-2.field-0).items ++ b.items))) (sym c.in_ok-with_capacity.ensures)
    (subst (λ l. AllZip alike wanted (last_items l)) (sym (append-nil (joined (arc_value c.in_ok-new-2.field-0).items) ∙ is)) pieces)

pub invariant_of-result : goal.invariant_of-result
invariant_of-result g c =
    let items = ap (λ (r : RecentValue _). length r.items) c.self.view_is in
    let count : c.len-count.result ≡ length c.args.last.items = omega (arith, c.len-count.ensures) in
    let was : length c.args.self.now.items ≡ min c.self.inside.total 1024 = sym items ∙ c.self.invariant.1 in (
      ap (λ (b : Buffer _). b.capacity) c.in_ok-with_capacity.ensures,
      length_copy g.T.Keep.alike g.met.T.Keep.same c.args.self.now.items c.args.last.items _ c.self.inside.total c.more-total.result c.args.passed (alike_items g c) was
          (λ long. c.more-total.ensures.total (omega (arith, long, count)) ∙ ap (λ n. min (c.self.inside.total + c.args.passed + n) (2 ^ 64 - 1)) count)
          (λ few. c.more-total.ensures.short (omega (arith, few, count)) ∙ ap (λ n. min (c.self.inside.total + n) (2 ^ 64 - 1)) count),
    )

pub returns-clause-items : goal.returns-clause-items
returns-clause-items g c = alike_items g c

pub returns-clause-list : goal.returns-clause-list
returns-clause-list g c = λ all more is long h.
    let total = ap (λ (r : RecentValue _). r.total) c.self.view_is in
    let count : c.len-count.result ≡ length c.args.last.items = omega (arith, c.len-count.ensures) in
    copy_of_all g.T.Keep.alike g.met.T.Keep.same c.args.self.now _ all more c.args.last.items c.args.passed (alike_items g c)
    (λ long. c.more-total.ensures.total (omega (arith, long, count)) ∙ ap (λ n. min (c.self.inside.total + c.args.passed + n) (2 ^ 64 - 1)) count ∙ ap (λ n. min (n + c.args.passed + length c.args.last.items) (2 ^ 64 - 1)) total)
    (λ few. c.more-total.ensures.short (omega (arith, few, count)) ∙ ap (λ n. min (c.self.inside.total + n) (2 ^ 64 - 1)) count ∙ ap (λ n. min (n + length c.args.last.items) (2 ^ 64 - 1)) total)
    is long h
