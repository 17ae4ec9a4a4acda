use Rattle.std.proofs.Common.{◌≡◌, ◌<◌, ◌≤◌, ℕ, List, length, get_or, rules, arith, ap, ◌∙◌, subst, sym}
use Rattle.std.specs.Arc.{arc_value}
use mathlib.Core.List.{IsPrefix}
use Rattle.cut_publisher.specs.declared.history.Step.{Step}
use Rattle.cut_publisher.proofs.Extends.{followed}
use Rattle.cut_publisher.proofs.publication.follows.Goals as goal
use Rattle.cut_publisher.specs.History.{Fed, part, site, told}
use Rattle.cut_publisher.specs.Publication.{IsFollowed}

pub returns : goal.returns
returns g c holds =
    let S = g.row.S.Denot in
    let E = g.row.S-Entry.Denot in
    let both = c.learn.new.self.log in
    let shown = c.args.shown.now in
    let pass = c.pass.inside in
    let whole : IsPrefix shown.seen.log both = subst (λ (l : List (Step E)). IsPrefix l both) (ap (λ s. s.log) c.again-both.ensures) c.learn.ensures.2 in
    let cut : c.deref.result.now ≡ arc_value shown.cut = search rules in
    let cut' : c.deref-2.result.now ≡ arc_value shown.cut = search rules in
    let d : S × ℕ = (arc_value pass.value, 0) in
    let lt : pass.lane < length (arc_value shown.cut) = omega (arith, ap length cut, c.lanes.ensures, c.if-pass-lanes.false) in
    let count : (get_or (arc_value shown.cut) pass.lane d).1 ≡ length (part pass.lane (told pass.seen.log)) = sym (c.count.ensures d ∙ ap (λ (xs : List (S × ℕ)). (get_or xs pass.lane d).1) cut') ∙ c.if-count-pass.false ∙ c.pass.invariant.1 in
    let le : length pass.seen.log ≤ length shown.seen.log = omega (arith, c.pass.invariant.0, c.requires.good.long) in
    subst (λ (f : Fed E). IsFollowed f (arc_value shown.cut) (told shown.seen.log)) c.pass.view_is
    (followed g.S.Subject.stands (arc_value shown.cut) shown.seen.log pass.seen.log both (site pass.seen.book pass.lanes) pass.lane d c.requires.good.cut lt count c.learn.ensures.3 whole le)
