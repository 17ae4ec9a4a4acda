use Rattle.std.proofs.Common.{◌≡◌, ◌+◌, ◌∷◌, ◌++◌, [], ℕ, List, length, arith, refl, ap, sym, ◌∙◌, subst, length-append}
use Rattle.std.specs.Prelude.{Option, IfSome}
use Rattle.std.specs.Arc.{arc_value}
use Rattle.cut_publisher.specs.declared.history.Step.{Step}
use Rattle.cut_publisher.specs.declared.history.Step.TheVariants.{Batch}
use Rattle.cut_publisher.specs.declared.cell.Shown.{Shown}
use Rattle.cut_publisher.proofs.Extends.{told_more, part_more}
use Rattle.cut_publisher.proofs.Marks.{told_unmarked}
use Rattle.cut_publisher.specs.Logs.{IsOpen}
use Rattle.cut_publisher.proofs.publication.Desk+S+J+CellWriter+S.publish.Goals as goal
use Rattle.cut_publisher.specs.History.{Site, batch, part, saw, site, told}
use Rattle.cut_publisher.specs.Rule.{IsLive, site_of}

pub invariant_of-pass : goal.invariant_of-pass
invariant_of-pass g c =
    let S = g.row.S.Denot in
    let E = g.row.S-Entry.Denot in
    let was = c.self.inside.shown in
    let lane = c.pass.inside.lane in
    let es = c.args.entries.now in
    let note = subst (λ (o : Option (Shown S E)). IfSome o (λ n. IsLive g.S.Subject.stands n × (site_of n ≡ site_of was) × (n.seen.log ≡ was.seen.log ++ Batch lane es ∷ []))) c.in-Some.is c.extend-writer.ensures.some in
    let same = subst (λ (k : ℕ). part k (told was.seen.log) ≡ c.args.pass.entries) (sym (ap (λ f. f.lane) c.pass.view_is)) (c.follows.ensures c.if-not-follows.false).same in
    let log = ap (λ s. s.log) c.again.ensures ∙ note.2 in
    let parts : part lane (told c.again.result.log) ≡ c.args.pass.entries ++ es = ap (λ (l : List (Step E)). part lane (told l)) log ∙ part_more was.seen.log lane c.args.pass.entries es same in
    let count : c.pass.inside.count + length es ≡ length (part lane (told c.again.result.log)) = omega (arith, c.pass.invariant.1, ap (λ f. length f.entries) c.pass.view_is, ap length parts, length-append c.args.pass.entries es) in
    (note.0.good.long ∙ sym (ap (λ s. length s.log) c.again.ensures), count, subst (g.S.Subject.stands (arc_value c.args.value)) (sym parts) c.requires.value)

pub returns-in-Some : goal.returns-in-Some
returns-in-Some g c =
    let S = g.row.S.Denot in
    let E = g.row.S-Entry.Denot in
    let was = c.self.inside.shown in
    let lane = c.pass.inside.lane in
    let es = c.args.entries.now in
    let note = subst (λ (o : Option (Shown S E)). IfSome o (λ n. IsLive g.S.Subject.stands n × (site_of n ≡ site_of was) × (n.seen.log ≡ was.seen.log ++ Batch lane es ∷ []))) c.in-Some.is c.extend-writer.ensures.some in
    let here = ap (λ f. f.lane) c.pass.view_is in
    let followed = c.follows.ensures c.if-not-follows.false in
    let same = subst (λ (k : ℕ). part k (told was.seen.log) ≡ c.args.pass.entries) (sym here) followed.same in
    let log = ap (λ s. s.log) c.again.ensures ∙ note.2 in
    let old : site c.pass.inside.seen.book c.pass.inside.lanes ≡ c.args.pass.station = ap (λ f. f.station) c.pass.view_is in
    let shared : site_of c.in-Some.note ≡ c.args.pass.station = note.1 ∙ c.self.invariant.0.station ∙ sym c.requires.station in
    let book : c.again.result.book ≡ c.pass.inside.seen.book = ap (λ s. s.book) c.again.ensures ∙ ap (λ (z : Site). z.book) shared ∙ sym (ap (λ (z : Site). z.book) old) in
    let station : site c.again.result.book c.pass.inside.lanes ≡ c.args.pass.station = ap (λ b. site b c.pass.inside.lanes) book ∙ old in
    record {
      station = station;
      lane = here;
      entries = ap (λ (l : List (Step E)). part lane (told l)) log ∙ part_more was.seen.log lane c.args.pass.entries es same;
      earlier = followed.earlier;
      before = told was.seen.log;
      last = ap told log ∙ told_more was.seen.log lane es ∙ ap (λ (k : ℕ). told was.seen.log ++ batch k es) here;
      unmarked = told_unmarked c.again.result.log (subst IsOpen (sym (ap (λ s. s.log) c.again.ensures)) note.0.unmarked);
      part_is = refl;
      note_is = c.of.ensures ∙ (λ i. saw ((shared ∙ sym station) i) (sym c.again.ensures i).log);
    }
