use Rattle.std.proofs.Common.{◌≡◌, ◌≤◌, ◌∙◌, ◌⊎◌, ◌++◌, [], drop, length, ap, sym, subst, arith, append-nil}
use Rattle.std.specs.Arc.{arc_value}
use Rattle.std.specs.declared.vec.Vec.{Vec}
use Rattle.recent_ring.specs.Recent.{RecentValue, joined}
use Rattle.recent_ring.proofs.Joined.{rest_of}
use Rattle.recent_ring.proofs.MoreItems.{all_more, front_copy, none_alike}
use Rattle.recent_ring.proofs.ring.Recent.in_pieces.Goals as goal

pub returns-then-items-eq0 : goal.returns-then-items-eq0
returns-then-items-eq0 g c = λ more long.
    all_more g.T.Keep.alike g.met.T.Keep.same c.args.self.now.items more (joined c.new.result.items ++ more) (omega (arith, long, c.if-items-eq0.true)) (ap (λ ps. joined ps ++ more) c.new.ensures.items)

pub returns-then-newer-eq0 : goal.returns-then-newer-eq0
returns-then-newer-eq0 g c =
    let alike = g.T.Keep.alike in
    let older = (arc_value c.self.inside.older).items in
    let newer = c.self.inside.newer.items in
    let items = c.args.self.now.items in
    let first = c.not_needed-first.result in
    let seen = ap (λ (r : RecentValue _). r.items) c.self.view_is in
    let pieces : c.deref-2.result.now ≡ older = c.deref-2.ensures.value ∙ ap (λ (v : Vec _ _). v.items) c.deref.ensures in
    let same : c.deref-then-newer-eq0-2.result.now ≡ older = c.deref-then-newer-eq0-2.ensures.value ∙ ap (λ (v : Vec _ _). v.items) c.deref-then-newer-eq0.ensures in
    let enough : (first ≡ 0) ⊎ (c.saturating_sub.result ≤ length (joined (drop first older))) =
    subst (λ ps. (first ≡ 0) ⊎ (c.saturating_sub.result ≤ length (joined (drop first ps)))) pieces c.not_needed-first.ensures.enough in
    let is : joined c.in_ok-shared.shared.items ≡ joined (drop first older) ++ [] = c.in_ok-shared.ensures ∙ ap joined (rest_of c.deref-then-newer-eq0-2.result.now first) ∙ ap (λ ps. joined (drop first ps)) same ∙ sym (append-nil (joined (drop first older))) in
    λ more long. front_copy alike g.met.T.Keep.same older newer [] items more (joined c.in_ok-shared.shared.items) first c.saturating_sub.result enough
    (omega (arith, long, c.saturating_sub.ensures, c.len-newer.ensures.len)) seen (none_alike alike g.met.T.Keep.same newer (omega (arith, c.if-newer-eq0.true, c.len-newer.ensures.len))) is

pub returns : goal.returns
returns g c =
    let alike = g.T.Keep.alike in
    let older = (arc_value c.self.inside.older).items in
    let newer = c.self.inside.newer.items in
    let items = c.args.self.now.items in
    let first = c.not_needed-first.result in
    let seen = ap (λ (r : RecentValue _). r.items) c.self.view_is in
    let pieces : c.deref-2.result.now ≡ older = c.deref-2.ensures.value ∙ ap (λ (v : Vec _ _). v.items) c.deref.ensures in
    let again : c.deref-4.result.now ≡ older = c.deref-4.ensures.value ∙ ap (λ (v : Vec _ _). v.items) c.deref-3.ensures in
    let enough : (first ≡ 0) ⊎ (c.saturating_sub.result ≤ length (joined (drop first older))) =
    subst (λ ps. (first ≡ 0) ⊎ (c.saturating_sub.result ≤ length (joined (drop first ps)))) pieces c.not_needed-first.ensures.enough in
    let is : joined c.in_ok-list.list.items ≡ joined (drop first older) ++ c.in_ok-piece.piece.items = c.in_ok-list.ensures ∙ ap (λ ps. joined ps ++ c.in_ok-piece.piece.items) (rest_of c.deref-4.result.now first) ∙ ap (λ ps. joined (drop first ps) ++ c.in_ok-piece.piece.items) again in
    λ more long. front_copy alike g.met.T.Keep.same older newer c.in_ok-piece.piece.items items more (joined c.in_ok-list.list.items) first c.saturating_sub.result enough
    (omega (arith, long, c.saturating_sub.ensures, c.len-newer.ensures.len)) seen c.in_ok-piece.ensures is
