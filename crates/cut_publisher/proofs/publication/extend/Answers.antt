use Rattle.std.proofs.Common.{◌≡◌, ◌+◌, ℕ, List, length, get_or, set, rules, arith, refl, ap, sym, ◌∙◌, subst, length-append, length-set}
use Rattle.logbook.specs.Pages.{Book}
use Rattle.std.specs.Arc.{arc_value}
use Rattle.cut_publisher.proofs.Moves.{alike_site}
use Rattle.cut_publisher.proofs.Extends.{good_more, open_more}
use Rattle.cut_publisher.proofs.publication.extend.Goals as goal
use Rattle.cut_publisher.proofs.publication.extend.Goals.{After-again}
use Rattle.cut_publisher.proofs.publication.extend.Given.{Over}
use Rattle.cut_publisher.specs.declared.cell.Shown.{Shown}
use Rattle.cut_publisher.specs.declared.history.Step.{Step}
use Rattle.cut_publisher.specs.History.{part, told}
use Rattle.cut_publisher.specs.Cuts.{total}
use Rattle.cut_publisher.specs.Logs.{IsOpen}
use Rattle.cut_publisher.specs.Rule.{Good, site_at, site_of}

pub three_owners-requires-clause-rev : goal.three_owners-requires-clause-rev
three_owners-requires-clause-rev g c =
    let S = g.row.S.Denot in
    let d : c.deref.result.now ≡ arc_value c.args.shown.cut = search rules in
    omega (arith, ap (λ (z : List (S × ℕ)). total z) d, c.requires.revision, c.requires.room, length-append (part c.args.lane (told c.args.shown.seen.log)) c.args.entries.now)

pub three_owners-requires-clause-count : goal.three_owners-requires-clause-count
three_owners-requires-clause-count g c =
    let S = g.row.S.Denot in
    let x : S × ℕ = (arc_value c.args.value.now, 0) in
    let d : c.deref.result.now ≡ arc_value c.args.shown.cut = search rules in
    let at = c.requires.good.cut.lanes c.args.lane x c.requires.lane in
    omega (arith, ap (λ (z : List (S × ℕ)). (get_or z c.args.lane x).1) d, at.count, c.requires.room, length-append (part c.args.lane (told c.args.shown.seen.log)) c.args.entries.now)

pub written-spare-requires-clause-count : goal.written-spare-requires-clause-count
written-spare-requires-clause-count g c =
    let S = g.row.S.Denot in
    let x : S × ℕ = (arc_value c.args.value.now, 0) in
    omega (arith, (c.requires.good.cut.lanes c.args.lane x c.requires.lane).count, c.requires.room, length-append (part c.args.lane (told c.args.shown.seen.log)) c.args.entries.now)

-- what is made of the new cut is good
made : (g : Over) (c : After-again g) (y : Shown g.row.S.Denot g.row.S-Entry.Denot) → arc_value y.cut ≡ arc_value c.in-Some.cut → y.seen.log ≡ c.add_batch.new.seen.log → y.steps ≡ c.args.shown.steps + 1 → Good g.S.Subject.stands y
made g c y cut log steps =
    let S = g.row.S.Denot in
    let v = arc_value c.args.value.now in
    let es = c.args.entries.now in
    let lane = c.args.lane in
    let d : c.deref.result.now ≡ arc_value c.args.shown.cut = search rules in
    let items = cut ∙ c.in-Some.ensures.items ∙ ap (λ (z : List (S × ℕ)). set z lane (v, (get_or z lane (v, 0)).1 + length es)) d in
    let added = c.add_batch.ensures.added c.if-not-add_batch.false in
    good_more g.S.Subject.stands c.args.shown y lane v es c.requires.good c.requires.unmarked c.requires.lane c.requires.value c.requires.room items (log ∙ added) steps

-- and it is of the same station, with as many lanes
sited : (g : Over) (c : After-again g) (z : List (g.row.S.Denot × ℕ)) (b : Book) → z ≡ arc_value c.in-Some.cut → b ≡ c.args.shown.seen.book → site_at b z ≡ site_of c.args.shown
sited g c z b cut book =
    let S = g.row.S.Denot in
    let v = arc_value c.args.value.now in
    let es = c.args.entries.now in
    let lane = c.args.lane in
    let was = (arc_value c.args.shown.cut) in
    let d : c.deref.result.now ≡ arc_value c.args.shown.cut = search rules in
    let items = cut ∙ c.in-Some.ensures.items ∙ ap (λ (z : List (S × ℕ)). set z lane (v, (get_or z lane (v, 0)).1 + length es)) d in
    let len : length z ≡ length was = ap length items ∙ length-set was lane (v, (get_or was lane (v, 0)).1 + length es) in
    λ i. record { book = book i; lanes = len i }

-- no mark stands in the log with the entries
unmarked : (g : Over) (c : After-again g) (log : List (Step g.row.S-Entry.Denot)) → log ≡ c.add_batch.new.seen.log → IsOpen log
unmarked g c log is =
    let added = c.add_batch.ensures.added c.if-not-add_batch.false in
    subst IsOpen (sym (is ∙ added)) (open_more c.args.shown.seen.log c.args.lane c.args.entries.now c.requires.unmarked)

pub show-writer-requires-clause-live : goal.show-writer-requires-clause-live
show-writer-requires-clause-live g c =
    let log = ap (λ s. s.log) c.again.ensures in
    record { good = made g c _ refl log refl; unmarked = unmarked g c _ log }

pub show-writer-requires-clause-book : goal.show-writer-requires-clause-book
show-writer-requires-clause-book g c =
    sited g c _ _ refl (ap (λ s. s.book) c.again.ensures ∙ c.add_batch.ensures.book) ∙ sym (ap (λ d. site_of d.shown.value) c.make_room.ensures ∙ alike_site _ _ c.requires.cell)

pub returns-clause-shown : goal.returns-clause-shown
returns-clause-shown g c =
    let b = (goal.at.returns-clause-shown g c).After-again in
    (made g b _ c.in-Some.ensures.alike.1 refl refl, sited g b _ _ c.in-Some.ensures.alike.1 c.add_batch.ensures.book, unmarked g b _ refl)

pub returns-clause-some : goal.returns-clause-some
returns-clause-some g c =
    let b = (goal.at.returns-clause-some g c).After-again in
    let added = c.add_batch.ensures.added c.if-not-add_batch.false in
    let log = ap (λ s. s.log) c.again-2.ensures in
    (record { good = made g b _ c.in-Some.ensures.alike.0 log refl; unmarked = unmarked g b _ log }, sited g b _ _ c.in-Some.ensures.alike.0 (ap (λ s. s.book) c.again-2.ensures ∙ c.add_batch.ensures.book), log ∙ added)
