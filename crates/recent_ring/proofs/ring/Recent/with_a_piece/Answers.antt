use Rattle.std.proofs.Common.{◌≡◌, ◌≤◌, ◌∙◌, ◌-◌, ◌⊎◌, ◌++◌, drop, length, ap, sym, subst, arith}
use Rattle.std.specs.Arc.{arc_value}
use Rattle.std.specs.List.{AllZip}
use Rattle.std.specs.declared.vec.Vec.{Vec}
use Rattle.std.proofs.lemmas.List.Elements.{length_all_zip}
use Rattle.circular_buffer.specs.Buffer.{Buffer}
use Rattle.recent_ring.specs.Recent.{RecentValue, joined, last_items}
use Rattle.recent_ring.proofs.Joined.{piece_copy, rest_of}
use Rattle.recent_ring.proofs.ring.Recent.with_a_piece.Goals as goal

alike_items : (g : _) (c : goal.In_ok-with_capacity g) → AllZip g.T.Keep.alike c.args.self.now.items (last_items (joined (arc_value c.in_ok-new.field-0).items ++ c.in_ok-with_capacity.field-0.items))
alike_items g c =
    let alike = g.T.Keep.alike in
    let older = (arc_value c.self.inside.older).items in
    let newer = c.self.inside.newer.items in
    let items = c.args.self.now.items in
    let seen = ap (λ (r : RecentValue _). r.items) c.self.view_is in
    let sum : c.saturating_sub.result ≡ 1024 - length newer = omega (arith, c.saturating_sub.ensures, c.len.ensures.len) in
    let pieces : c.deref-2.result.now ≡ older = c.deref-2.ensures.value ∙ ap (λ (v : Vec _ _). v.items) c.deref.ensures in
    let again : c.deref-4.result.now ≡ older = c.deref-4.ensures.value ∙ ap (λ (v : Vec _ _). v.items) c.deref-3.ensures in
    let enough : (c.not_needed-first.result ≡ 0) ⊎ (1024 - length newer ≤ length (joined (drop c.not_needed-first.result older))) =
    subst (λ n. (c.not_needed-first.result ≡ 0) ⊎ (n ≤ length (joined (drop c.not_needed-first.result older)))) sum
    (subst (λ ps. (c.not_needed-first.result ≡ 0) ⊎ (c.saturating_sub.result ≤ length (joined (drop c.not_needed-first.result ps)))) pieces c.not_needed-first.ensures.enough) in
    let is : joined (arc_value c.in_ok-new.field-0).items ≡ joined (drop c.not_needed-first.result older) ++ c.in_ok-piece.piece.items = ap (λ (v : Vec _ _). joined v.items) c.in_ok-new.ensures.ok ∙ c.in_ok-older.ensures ∙ ap (λ ps. joined ps ++ c.in_ok-piece.piece.items) (rest_of c.deref-4.result.now c.not_needed-first.result) ∙ ap (λ ps. joined (drop c.not_needed-first.result ps) ++ c.in_ok-piece.piece.items) again in
    subst (λ (b : Buffer _). AllZip alike items (last_items (joined (arc_value c.in_ok-new.field-0).items ++ b.items))) (sym c.in_ok-with_capacity.ensures)
    (piece_copy alike g.met.T.Keep.same older newer c.in_ok-piece.piece.items items (joined (arc_value c.in_ok-new.field-0).items) c.not_needed-first.result enough seen c.in_ok-piece.ensures is)

pub invariant_of-result : goal.invariant_of-result
invariant_of-result g c =
    let long = length_all_zip g.T.Keep.alike _ _ (alike_items g c) in
    let seen = ap (λ (r : RecentValue _). length r.items) c.self.view_is in
    (ap (λ (b : Buffer _). b.capacity) c.in_ok-with_capacity.ensures, sym long ∙ sym seen ∙ c.self.invariant.1)

pub returns : goal.returns
returns g c = record { total = ap (λ (r : RecentValue _). r.total) c.self.view_is; items = alike_items g c }
