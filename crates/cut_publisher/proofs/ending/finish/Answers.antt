use Rattle.std.proofs.Common.{◌≡◌, ℕ, List, length, get_or, ap, sym, ◌∙◌, subst}
use Rattle.std.specs.Arc.{arc_value}
use Rattle.cut_publisher.proofs.Marks.{told_unmarked}
use Rattle.cut_publisher.proofs.Endings.{told_end, part-end}
use Rattle.cut_publisher.proofs.ending.finish.Goals as goal
use Rattle.cut_publisher.specs.History.{part, told}
use Rattle.cut_publisher.specs.Cuts.{Stands}

pub end-requires-clause-same : goal.end-requires-clause-same
end-requires-clause-same g c k d lt =
    let was = c.head.inside.shown.seen.log in
    let f = get_or c.args.feeds k d in
    let all = ap told c.marked-end.ensures.log ∙ told_end was in
    ap (part f.lane) all ∙ part-end f.lane (told was) ∙ (c.follow.ensures c.if-not-follow.false k d lt).same

pub returns : goal.returns
returns g c =
    let S = g.row.S.Denot in
    let was = c.head.inside.shown.seen.log in
    let now = told c.marked-end.result.seen.log in
    let all = ap told c.marked-end.ensures.log ∙ told_end was in
    let cut : arc_value c.marked-end.result.cut ≡ arc_value c.in-Ok.cut = ap (λ a. arc_value a) c.marked-end.ensures.cut ∙ sym c.in-Ok.ensures.cut in
    record {
      before = told was;
      history = now;
      marked = all;
      feeds_end = c.end.ensures;
      asks_end = c.end-2.ensures;
      unmarked = told_unmarked was c.head.invariant.0.unmarked;
      earlier = λ k d lt. (c.follow.ensures c.if-not-follow.false k d lt).earlier;
      parts = λ k d lt. let f = get_or c.args.feeds k d in ap (part f.lane) all ∙ part-end f.lane (told was) ∙ (c.follow.ensures c.if-not-follow.false k d lt).same;
      wide = ap (λ (z : List (S × ℕ)). length z) c.in-Ok.ensures.cut ∙ ap (λ z. z.lanes) c.head.invariant.0.station;
      cut_is = subst (λ (z : List (S × ℕ)). Stands g.S.Subject.stands z now) cut c.marked-end.ensures.good.cut;
    }
