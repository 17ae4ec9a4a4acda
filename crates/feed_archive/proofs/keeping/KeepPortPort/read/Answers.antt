use Rattle.std.proofs.Common.{◌≡◌, ℕ, ◌≤◌, length, take, ◌∷◌, Some, refl, ap, sym, ◌∙◌, subst, Ok}
use Rattle.bmp_specs.specs.Life.{LastRead, failed, gave_none}
use Rattle.station_doors.specs.Doors.{Reads, read_of}
use Rattle.station_doors.proofs.Planned.{read_some}
use Rattle.feed_archive.specs.Keeping.{keep_aside, is_refused, stays_of, went_of}
use Rattle.feed_archive.proofs.Kept.{InRead, in_rest, in_gave, in_lost}
use Rattle.feed_archive.proofs.AsideReads.{unplanned, reads_on, reads_lost, reads_later}
use Rattle.feed_archive.proofs.Asked.{asked_size, asked_open}
use Rattle.feed_archive.proofs.Holding.{piece_some, piece_most, given_fits, held_later, held_gave, held_failed, held_none, held_lost}
use Rattle.feed_archive.proofs.keeping.KeepPortPort.read.Goals as goal

pub invariant_of-self : goal.invariant_of-self
invariant_of-self g c =
    held_later g.D.Disk.tells (g.D.Disk.shows c.self.inside.made.value.disk) (g.P.Port.aside c.self.inside.first.value) (g.P.Port.calls c.self.inside.first.value) c.self.inside.made.value.place (g.D.Disk.faults c.self.inside.made.value.disk) c.self.inside.made.value.stopped
    (g.D.Disk.shows c.self.inside.archive.disk) (g.P.Port.aside c.self.inside.inner) (g.P.Port.aside c.self.inside.before.value) (g.P.Port.calls c.self.inside.inner) c.self.inside.archive.place (g.D.Disk.faults c.self.inside.archive.disk) c.self.inside.archive.stopped c.self.inside.given c.self.inside.notes.events _ c.self.inside.refused c.self.invariant (c.self.invariant.0 ∙ sym c.is_some.ensures ∙ c.if-is_some.true) c.note.ensures

pub read-requires-clause-size : goal.read-requires-clause-size
read-requires-clause-size g c = asked_size (g.P.Port.aside c.self.inside.inner) (g.P.Port.aside c.self.inside.before.value) (keep_aside (g.P.Port.aside c.args.self.now.inner) (g.P.Port.aside c.args.self.now.before) c.args.self.now.events) c.self.inside.notes.events (ap (λ v. keep_aside (g.P.Port.aside v.inner) (g.P.Port.aside v.before) v.events) c.self.view_is) _ (c.self.invariant.0 ∙ sym c.is_some.ensures ∙ c.if-is_some.false) c.requires.size

pub read-requires-clause-is_open : goal.read-requires-clause-is_open
read-requires-clause-is_open g c = asked_open (g.P.Port.aside c.self.inside.inner) (g.P.Port.aside c.self.inside.before.value) (keep_aside (g.P.Port.aside c.args.self.now.inner) (g.P.Port.aside c.args.self.now.before) c.args.self.now.events) c.self.inside.notes.events (ap (λ v. keep_aside (g.P.Port.aside v.inner) (g.P.Port.aside v.before) v.events) c.self.view_is) c.requires.is_open

pub slice_bounds-piece-end : goal.slice_bounds-piece-end
slice_bounds-piece-end g c = c.in-Ok.ensures.bound.0

pub slice_bounds-piece-end-2 : goal.slice_bounds-piece-end-2
slice_bounds-piece-end-2 g c = c.in-Ok.ensures.bound.1

pub append-requires-clause-some : goal.append-requires-clause-some
append-requires-clause-some g c = piece_some _ c.read.new.buf c.if-count-eq0.false c.in-Ok.ensures.bound.0

pub append-requires-clause-most : goal.append-requires-clause-most
append-requires-clause-most g c = piece_most (keep_aside (g.P.Port.aside c.args.self.now.inner) (g.P.Port.aside c.args.self.now.before) c.args.self.now.events).taken _ _ c.args.buf.now c.read.auto.buf c.requires.size

pub overflow_add-self : goal.overflow_add-self
overflow_add-self g c =
    given_fits g.D.Disk.tells (g.D.Disk.shows c.self.inside.made.value.disk) (g.P.Port.aside c.self.inside.first.value) (g.P.Port.calls c.self.inside.first.value) c.self.inside.made.value.place (g.D.Disk.faults c.self.inside.made.value.disk) c.self.inside.made.value.stopped
    (g.D.Disk.shows c.self.inside.archive.disk) (g.P.Port.aside c.self.inside.inner) (g.P.Port.aside c.self.inside.before.value) (g.P.Port.calls c.self.inside.inner) c.self.inside.archive.place (g.D.Disk.faults c.self.inside.archive.disk) c.self.inside.archive.stopped c.self.inside.given c.self.inside.notes.events c.self.inside.refused c.self.invariant (sym c.is_some.ensures ∙ c.if-is_some.false)
    (keep_aside (g.P.Port.aside c.args.self.now.inner) (g.P.Port.aside c.args.self.now.before) c.args.self.now.events) (ap (λ v. keep_aside (g.P.Port.aside v.inner) (g.P.Port.aside v.before) v.events) c.self.view_is) c.args.buf.now c.requires.is_open c.requires.size c.requires.some (g.P.Port.aside c.read.new.self) (g.P.Port.calls c.read.new.self) c.in-Ok.count c.read.new.buf c.read.auto.buf
    _ c.in-Ok-append.ensures.answers.1 c.in-Ok.ensures.bound.0

pub invariant_of-self-in-Err : goal.invariant_of-self-in-Err
invariant_of-self-in-Err g c =
    held_failed g.D.Disk.tells (g.D.Disk.shows c.self.inside.made.value.disk) (g.P.Port.aside c.self.inside.first.value) (g.P.Port.calls c.self.inside.first.value) c.self.inside.made.value.place (g.D.Disk.faults c.self.inside.made.value.disk) c.self.inside.made.value.stopped
    (g.D.Disk.shows c.self.inside.archive.disk) (g.P.Port.aside c.self.inside.inner) (g.P.Port.aside c.self.inside.before.value) (g.P.Port.calls c.self.inside.inner) c.self.inside.archive.place (g.D.Disk.faults c.self.inside.archive.disk) c.self.inside.archive.stopped c.self.inside.given c.self.inside.notes.events c.self.inside.refused c.self.invariant (sym c.is_some.ensures ∙ c.if-is_some.false)
    (keep_aside (g.P.Port.aside c.args.self.now.inner) (g.P.Port.aside c.args.self.now.before) c.args.self.now.events) (ap (λ v. keep_aside (g.P.Port.aside v.inner) (g.P.Port.aside v.before) v.events) c.self.view_is) c.args.buf.now c.requires.is_open c.requires.size c.requires.some (g.P.Port.aside c.read.new.self) (g.P.Port.calls c.read.new.self) 0 c.read.new.buf c.read.auto.buf
    (g.P.Port.aside c.of.result.value) _ c.in-Err.ensures.reads c.in-Err.ensures.planned _ c.note-in-Err.ensures

pub invariant_of-self-then-count-eq0 : goal.invariant_of-self-then-count-eq0
invariant_of-self-then-count-eq0 g c =
    held_none g.D.Disk.tells (g.D.Disk.shows c.self.inside.made.value.disk) (g.P.Port.aside c.self.inside.first.value) (g.P.Port.calls c.self.inside.first.value) c.self.inside.made.value.place (g.D.Disk.faults c.self.inside.made.value.disk) c.self.inside.made.value.stopped
    (g.D.Disk.shows c.self.inside.archive.disk) (g.P.Port.aside c.self.inside.inner) (g.P.Port.aside c.self.inside.before.value) (g.P.Port.calls c.self.inside.inner) c.self.inside.archive.place (g.D.Disk.faults c.self.inside.archive.disk) c.self.inside.archive.stopped c.self.inside.given c.self.inside.notes.events c.self.inside.refused c.self.invariant (sym c.is_some.ensures ∙ c.if-is_some.false)
    (keep_aside (g.P.Port.aside c.args.self.now.inner) (g.P.Port.aside c.args.self.now.before) c.args.self.now.events) (ap (λ v. keep_aside (g.P.Port.aside v.inner) (g.P.Port.aside v.before) v.events) c.self.view_is) c.args.buf.now c.requires.is_open c.requires.size c.requires.some (g.P.Port.aside c.read.new.self) (g.P.Port.calls c.read.new.self) c.in-Ok.count c.read.new.buf c.read.auto.buf
    (g.P.Port.aside c.of.result.value) c.if-count-eq0.true c.in-Ok.ensures.reads c.in-Ok.ensures.planned _ c.note-then-count-eq0.ensures

pub invariant_of-self-in-Ok-append : goal.invariant_of-self-in-Ok-append
invariant_of-self-in-Ok-append g c =
    held_gave g.D.Disk.tells (g.D.Disk.shows c.self.inside.made.value.disk) (g.P.Port.aside c.self.inside.first.value) (g.P.Port.calls c.self.inside.first.value) c.self.inside.made.value.place (g.D.Disk.faults c.self.inside.made.value.disk) c.self.inside.made.value.stopped
    (g.D.Disk.shows c.self.inside.archive.disk) (g.P.Port.aside c.self.inside.inner) (g.P.Port.aside c.self.inside.before.value) (g.P.Port.calls c.self.inside.inner) c.self.inside.archive.place (g.D.Disk.faults c.self.inside.archive.disk) c.self.inside.archive.stopped c.self.inside.given c.self.inside.notes.events c.self.inside.refused c.self.invariant (sym c.is_some.ensures ∙ c.if-is_some.false)
    (keep_aside (g.P.Port.aside c.args.self.now.inner) (g.P.Port.aside c.args.self.now.before) c.args.self.now.events) (ap (λ v. keep_aside (g.P.Port.aside v.inner) (g.P.Port.aside v.before) v.events) c.self.view_is) c.args.buf.now c.requires.is_open c.requires.size c.requires.some (g.P.Port.aside c.read.new.self) (g.P.Port.calls c.read.new.self) c.in-Ok.count c.read.new.buf c.read.auto.buf
    _ (g.P.Port.aside c.of.result.value) _ _ _ _ c.if-count-eq0.false c.in-Ok.ensures.bound.0 c.in-Ok.ensures.reads c.in-Ok.ensures.planned
    c.in-Ok-append.ensures.any_moment c.in-Ok-append.ensures.kept c.in-Ok-append.ensures.lasts c.in-Ok-append.ensures.answers.0 c.in-Ok-append.ensures.answers.2 c.in-Ok-append.ensures.answers.3 c.in-Ok-append.ensures.cause refl _ c.note-in-Ok-append.ensures

pub invariant_of-self-in-Err-append : goal.invariant_of-self-in-Err-append
invariant_of-self-in-Err-append g c =
    held_lost g.D.Disk.tells (g.D.Disk.shows c.self.inside.made.value.disk) (g.P.Port.aside c.self.inside.first.value) (g.P.Port.calls c.self.inside.first.value) c.self.inside.made.value.place (g.D.Disk.faults c.self.inside.made.value.disk) c.self.inside.made.value.stopped
    (g.D.Disk.shows c.self.inside.archive.disk) (g.P.Port.aside c.self.inside.inner) (g.P.Port.aside c.self.inside.before.value) (g.P.Port.calls c.self.inside.inner) c.self.inside.archive.place (g.D.Disk.faults c.self.inside.archive.disk) c.self.inside.archive.stopped c.self.inside.given c.self.inside.notes.events c.self.inside.refused c.self.invariant (sym c.is_some.ensures ∙ c.if-is_some.false)
    (keep_aside (g.P.Port.aside c.args.self.now.inner) (g.P.Port.aside c.args.self.now.before) c.args.self.now.events) (ap (λ v. keep_aside (g.P.Port.aside v.inner) (g.P.Port.aside v.before) v.events) c.self.view_is) c.args.buf.now c.requires.is_open c.requires.size c.requires.some (g.P.Port.aside c.read.new.self) (g.P.Port.calls c.read.new.self) c.in-Ok.count c.read.new.buf c.read.auto.buf
    g.D.Disk.shows c.self.inside.archive c.append.new.self _ _ refl refl refl c.if-count-eq0.false c.in-Ok.ensures.bound.0 c.in-Ok.ensures.reads c.in-Ok.ensures.planned
    c.in-Err-append.ensures.any_moment c.in-Err-append.ensures.lasts c.in-Err-append.ensures.answers c.in-Err-append.ensures.planned c.in-Err-append.ensures.cause (g.P.Port.aside c.of.result.value) (ap g.P.Port.aside c.of.ensures) _ c.note-in-Err-append.ensures

pub returns-then-count-eq0-clause-bound : goal.returns-then-count-eq0-clause-bound
returns-then-count-eq0-clause-bound g c = subst (λ (n : ℕ). (n ≤ length c.read.new.buf) × (n ≡ length (take n c.read.new.buf))) c.if-count-eq0.true c.in-Ok.ensures.bound

pub returns-then-is_some-clause-stays : goal.returns-then-is_some-clause-stays
returns-then-is_some-clause-stays g c = ap (λ v. stays_of g.P.Port.aside g.P.Port.calls g.D.Disk.shows g.D.Disk.faults v) c.self.view_is

pub returns-in-Err-clause-stays : goal.returns-in-Err-clause-stays
returns-in-Err-clause-stays g c = ap (λ v. stays_of g.P.Port.aside g.P.Port.calls g.D.Disk.shows g.D.Disk.faults v) c.self.view_is

pub returns-then-count-eq0-clause-stays : goal.returns-then-count-eq0-clause-stays
returns-then-count-eq0-clause-stays g c = ap (λ v. stays_of g.P.Port.aside g.P.Port.calls g.D.Disk.shows g.D.Disk.faults v) c.self.view_is

pub returns-in-Ok-append-clause-stays : goal.returns-in-Ok-append-clause-stays
returns-in-Ok-append-clause-stays g c = ap (λ v. stays_of g.P.Port.aside g.P.Port.calls g.D.Disk.shows g.D.Disk.faults v) c.self.view_is

pub returns-in-Err-append-clause-stays : goal.returns-in-Err-append-clause-stays
returns-in-Err-append-clause-stays g c = ap (λ v. stays_of g.P.Port.aside g.P.Port.calls g.D.Disk.shows g.D.Disk.faults v) c.self.view_is

pub returns-then-is_some-clause-planned : goal.returns-then-is_some-clause-planned
returns-then-is_some-clause-planned g c = unplanned (is_refused c.args.self.now.events) (g.P.Port.aside c.args.self.now.inner) (g.P.Port.aside c.args.self.now.before) c.args.self.now.events _

pub returns-in-Err-clause-planned : goal.returns-in-Err-clause-planned
returns-in-Err-clause-planned g c = unplanned (is_refused c.args.self.now.events) (g.P.Port.aside c.args.self.now.inner) (g.P.Port.aside c.args.self.now.before) c.args.self.now.events _

pub returns-then-count-eq0-clause-planned : goal.returns-then-count-eq0-clause-planned
returns-then-count-eq0-clause-planned g c = unplanned (is_refused c.args.self.now.events) (g.P.Port.aside c.args.self.now.inner) (g.P.Port.aside c.args.self.now.before) c.args.self.now.events _

pub returns-in-Ok-append-clause-planned : goal.returns-in-Ok-append-clause-planned
returns-in-Ok-append-clause-planned g c = unplanned (is_refused c.args.self.now.events) (g.P.Port.aside c.args.self.now.inner) (g.P.Port.aside c.args.self.now.before) c.args.self.now.events _

pub returns-in-Err-append-clause-planned : goal.returns-in-Err-append-clause-planned
returns-in-Err-append-clause-planned g c = unplanned (is_refused c.args.self.now.events) (g.P.Port.aside c.args.self.now.inner) (g.P.Port.aside c.args.self.now.before) c.args.self.now.events _

pub returns-then-is_some-clause-went : goal.returns-then-is_some-clause-went
returns-then-is_some-clause-went g c = ap (λ es. Some (went_of es)) c.note.ensures ∙ ap (λ v. Some (failed ∷ went_of v.events)) c.self.view_is

pub returns-in-Err-clause-went : goal.returns-in-Err-clause-went
returns-in-Err-clause-went g c = ap (λ es. Some (went_of es)) c.note-in-Err.ensures ∙ ap (λ v. Some (failed ∷ went_of v.events)) c.self.view_is

pub returns-then-count-eq0-clause-went : goal.returns-then-count-eq0-clause-went
returns-then-count-eq0-clause-went g c = ap (λ es. Some (went_of es)) c.note-then-count-eq0.ensures ∙ ap (λ v. Some (gave_none ∷ went_of v.events)) c.self.view_is

pub returns-in-Err-append-clause-went : goal.returns-in-Err-append-clause-went
returns-in-Err-append-clause-went g c = ap (λ es. Some (went_of es)) c.note-in-Err-append.ensures ∙ ap (λ v. Some (failed ∷ went_of v.events)) c.self.view_is

pub returns-in-Ok-append-clause-went : goal.returns-in-Ok-append-clause-went
returns-in-Ok-append-clause-went g c = ap (λ es. Some (went_of es)) c.note-in-Ok-append.ensures ∙ ap (λ (l : LastRead). Some (l ∷ went_of c.self.inside.notes.events)) (sym (read_some c.in-Ok.count c.if-count-eq0.false)) ∙ ap (λ v. Some (read_of c.in-Ok.count ∷ went_of v.events)) c.self.view_is

pub returns-then-is_some-clause-any_moment : goal.returns-then-is_some-clause-any_moment
returns-then-is_some-clause-any_moment g c =
    subst (λ v. InRead g.D.Disk.tells (g.D.Disk.shows v.made.disk) v.events c.note.new.notes.events (g.D.Disk.shows v.archive.disk) (g.D.Disk.shows c.self.inside.archive.disk)) c.self.view_is
    (in_rest 0 _ _ _ c.self.inside.notes.events _ c.self.invariant.1 c.note.ensures)

pub returns-in-Err-clause-any_moment : goal.returns-in-Err-clause-any_moment
returns-in-Err-clause-any_moment g c =
    subst (λ v. InRead g.D.Disk.tells (g.D.Disk.shows v.made.disk) v.events c.note-in-Err.new.notes.events (g.D.Disk.shows v.archive.disk) (g.D.Disk.shows c.self.inside.archive.disk)) c.self.view_is
    (in_rest 3 _ _ _ c.self.inside.notes.events _ c.self.invariant.1 c.note-in-Err.ensures)

pub returns-then-count-eq0-clause-any_moment : goal.returns-then-count-eq0-clause-any_moment
returns-then-count-eq0-clause-any_moment g c =
    subst (λ v. InRead g.D.Disk.tells (g.D.Disk.shows v.made.disk) v.events c.note-then-count-eq0.new.notes.events (g.D.Disk.shows v.archive.disk) (g.D.Disk.shows c.self.inside.archive.disk)) c.self.view_is
    (in_rest 2 _ _ _ c.self.inside.notes.events _ c.self.invariant.1 c.note-then-count-eq0.ensures)

pub returns-in-Ok-append-clause-any_moment : goal.returns-in-Ok-append-clause-any_moment
returns-in-Ok-append-clause-any_moment g c =
    subst (λ v. InRead g.D.Disk.tells (g.D.Disk.shows v.made.disk) v.events c.note-in-Ok-append.new.notes.events (g.D.Disk.shows v.archive.disk) (g.D.Disk.shows c.append.new.self.disk)) c.self.view_is
    (in_gave _ _ _ _ c.self.inside.notes.events _ c.self.invariant.1 (c.self.invariant.0 ∙ sym c.is_some.ensures ∙ c.if-is_some.false) c.in-Ok-append.ensures.any_moment _ c.note-in-Ok-append.ensures)

pub returns-in-Err-append-clause-any_moment : goal.returns-in-Err-append-clause-any_moment
returns-in-Err-append-clause-any_moment g c =
    subst (λ v. InRead g.D.Disk.tells (g.D.Disk.shows v.made.disk) v.events c.note-in-Err-append.new.notes.events (g.D.Disk.shows v.archive.disk) (g.D.Disk.shows c.append.new.self.disk)) c.self.view_is
    (in_lost _ _ _ _ c.self.inside.notes.events _ c.self.invariant.1 (c.self.invariant.0 ∙ sym c.is_some.ensures ∙ c.if-is_some.false) c.in-Err-append.ensures.any_moment _ c.note-in-Err-append.ensures)

pub returns-then-is_some-clause-reads : goal.returns-then-is_some-clause-reads
returns-then-is_some-clause-reads g c = reads_later (g.P.Port.aside c.self.inside.inner) (g.P.Port.aside c.self.inside.before.value) (keep_aside (g.P.Port.aside c.args.self.now.inner) (g.P.Port.aside c.args.self.now.before) c.args.self.now.events) c.self.inside.notes.events _ _ _ (ap (λ v. keep_aside (g.P.Port.aside v.inner) (g.P.Port.aside v.before) v.events) c.self.view_is) c.note.ensures (c.self.invariant.0 ∙ sym c.is_some.ensures ∙ c.if-is_some.true)

pub returns-in-Err-clause-reads : goal.returns-in-Err-clause-reads
returns-in-Err-clause-reads g c =
    reads_on (g.P.Port.aside c.self.inside.inner) (g.P.Port.aside c.read.new.self) (g.P.Port.aside c.self.inside.before.value) (g.P.Port.aside c.of.result.value) (keep_aside (g.P.Port.aside c.args.self.now.inner) (g.P.Port.aside c.args.self.now.before) c.args.self.now.events) c.self.inside.notes.events c.note-in-Err.new.notes.events _ _ (ap (λ v. keep_aside (g.P.Port.aside v.inner) (g.P.Port.aside v.before) v.events) c.self.view_is) (c.self.invariant.0 ∙ sym c.is_some.ensures ∙ c.if-is_some.false) (ap is_refused c.note-in-Err.ensures ∙ c.self.invariant.0 ∙ sym c.is_some.ensures ∙ c.if-is_some.false) c.in-Err.ensures.reads

pub returns-then-count-eq0-clause-reads : goal.returns-then-count-eq0-clause-reads
returns-then-count-eq0-clause-reads g c =
    reads_on (g.P.Port.aside c.self.inside.inner) (g.P.Port.aside c.read.new.self) (g.P.Port.aside c.self.inside.before.value) (g.P.Port.aside c.of.result.value) (keep_aside (g.P.Port.aside c.args.self.now.inner) (g.P.Port.aside c.args.self.now.before) c.args.self.now.events) c.self.inside.notes.events c.note-then-count-eq0.new.notes.events _ _ (ap (λ v. keep_aside (g.P.Port.aside v.inner) (g.P.Port.aside v.before) v.events) c.self.view_is) (c.self.invariant.0 ∙ sym c.is_some.ensures ∙ c.if-is_some.false) (ap is_refused c.note-then-count-eq0.ensures ∙ c.self.invariant.0 ∙ sym c.is_some.ensures ∙ c.if-is_some.false) (subst (λ (n : ℕ). Reads (g.P.Port.aside c.self.inside.inner) (g.P.Port.aside c.read.new.self) (Ok n) c.read.new.buf) c.if-count-eq0.true c.in-Ok.ensures.reads)

pub returns-in-Ok-append-clause-reads : goal.returns-in-Ok-append-clause-reads
returns-in-Ok-append-clause-reads g c =
    reads_on (g.P.Port.aside c.self.inside.inner) (g.P.Port.aside c.read.new.self) (g.P.Port.aside c.self.inside.before.value) (g.P.Port.aside c.of.result.value) (keep_aside (g.P.Port.aside c.args.self.now.inner) (g.P.Port.aside c.args.self.now.before) c.args.self.now.events) c.self.inside.notes.events c.note-in-Ok-append.new.notes.events _ _ (ap (λ v. keep_aside (g.P.Port.aside v.inner) (g.P.Port.aside v.before) v.events) c.self.view_is) (c.self.invariant.0 ∙ sym c.is_some.ensures ∙ c.if-is_some.false) (ap is_refused c.note-in-Ok-append.ensures ∙ c.self.invariant.0 ∙ sym c.is_some.ensures ∙ c.if-is_some.false) c.in-Ok.ensures.reads

pub returns-in-Err-append-clause-reads : goal.returns-in-Err-append-clause-reads
returns-in-Err-append-clause-reads g c =
    reads_lost (g.P.Port.aside c.self.inside.inner) (g.P.Port.aside c.read.new.self) (g.P.Port.aside c.self.inside.before.value) (g.P.Port.aside c.of.result.value) (keep_aside (g.P.Port.aside c.args.self.now.inner) (g.P.Port.aside c.args.self.now.before) c.args.self.now.events) c.self.inside.notes.events _ c.in-Ok.count _ _ _ (ap (λ v. keep_aside (g.P.Port.aside v.inner) (g.P.Port.aside v.before) v.events) c.self.view_is) c.note-in-Err-append.ensures (ap g.P.Port.aside c.of.ensures) (c.self.invariant.0 ∙ sym c.is_some.ensures ∙ c.if-is_some.false) c.in-Ok.ensures.reads
