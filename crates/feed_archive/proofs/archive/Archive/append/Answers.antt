use Rattle.std.proofs.Common.{◌≡◌, ℕ, ◌+◌, ◌^◌, ◌<◌, ◌≤◌, ◌∙◌, refl, sym, ap, subst, length}
use mathlib.Core.Bool.{false, false≢true}
use Rattle.disk_doors.specs.Disk.{IsSound}
use Rattle.disk_doors.proofs.Passing.{lasts_none, lasts_then}
use Rattle.feed_archive.specs.Archive.{most_archive}
use Rattle.feed_archive.specs.Appending.{IsClosedAt, IsZeroAt}
use Rattle.feed_archive.proofs.Steps.{unappended, first_step, second_step, closed_again, zero_again, kept_again}
use Rattle.feed_archive.proofs.Ending.{fits_one, fits_six, fits_end, end_some, end_within, end_before, kept_whole, few_none, few_one, few_two, failed_on, failed_answers, failed_planned, failed_cause, first_unsound, second_unsound}
use Rattle.feed_archive.proofs.archive.Archive.append.Goals as goal

pub returns-in_err-put-clause-any_moment : goal.returns-in_err-put-clause-any_moment
returns-in_err-put-clause-any_moment g c =
    let fits : c.self.inside.place + 6 + length c.args.piece.now ≤ 2 ^ 31 = c.if-end-gt-MOST.false in
    rw (← c.self.view_is) (λ t content only. first_step _ _ _ c.requires.most fits (c.self.invariant.2 c.if-self.false t) content only _ _ _ (c.put.ensures.told t))

pub returns-in_err-put-2-clause-any_moment : goal.returns-in_err-put-2-clause-any_moment
returns-in_err-put-2-clause-any_moment g c =
    let fits : c.self.inside.place + 6 + length c.args.piece.now ≤ 2 ^ 31 = c.if-end-gt-MOST.false in
    rw (← c.self.view_is) (λ t content only. second_step _ _ _ c.requires.most fits (c.self.invariant.2 c.if-self.false t) content only _ _ _ _ _ (c.as_slice.ensures.value ∙ c.fill.ensures.bytes) (c.in_ok-put.ensures.told t) (c.put-2.ensures.told t))

pub invariant_of-self-2 : goal.invariant_of-self-2
invariant_of-self-2 g c =
    let fits : c.self.inside.place + 6 + length c.args.piece.now ≤ 2 ^ 31 = c.if-end-gt-MOST.false in (
      c.fill.ensures.capacity,
      end_within _ _ c.if-end-gt-MOST.false,
      λ e t.
          subst (λ (n : ℕ). IsClosedAt (g.D.Disk.shows c.put-2.new.disk).now n) (end_before c.self.inside.place (length c.args.piece.now)) (closed_again _ _ _ c.requires.most fits (c.self.invariant.2 c.if-self.false t) _ _ _ _ _ (c.as_slice.ensures.value ∙ c.fill.ensures.bytes) (c.in_ok-put.ensures.told t) (c.in_ok-put-2.ensures.told t)),
    )

pub returns-clause-any_moment : goal.returns-clause-any_moment
returns-clause-any_moment g c =
    let fits : c.self.inside.place + 6 + length c.args.piece.now ≤ 2 ^ 31 = c.if-end-gt-MOST.false in
    rw (← c.self.view_is) (λ t content only. second_step _ _ _ c.requires.most fits (c.self.invariant.2 c.if-self.false t) content only _ _ _ _ _ (c.as_slice.ensures.value ∙ c.fill.ensures.bytes) (c.in_ok-put.ensures.told t) (c.in_ok-put-2.ensures.told t))

pub returns-clause-kept : goal.returns-clause-kept
returns-clause-kept g c =
    let fits : c.self.inside.place + 6 + length c.args.piece.now ≤ 2 ^ 31 = c.if-end-gt-MOST.false in
    rw (← c.self.view_is) (λ t content only. kept_again _ _ _ c.requires.most fits (c.self.invariant.2 c.if-self.false t) content only _ _ _ _ _ (c.as_slice.ensures.value ∙ c.fill.ensures.bytes) (c.in_ok-put.ensures.told t) (c.in_ok-put-2.ensures.told t))

pub returns-clause-zero : goal.returns-clause-zero
returns-clause-zero g c =
    let fits : c.self.inside.place + 6 + length c.args.piece.now ≤ 2 ^ 31 = c.if-end-gt-MOST.false in
    λ t. subst (λ (n : ℕ). IsZeroAt (g.D.Disk.shows c.put-2.new.disk).now n) (end_before c.self.inside.place (length c.args.piece.now)) (zero_again _ _ _ c.requires.most fits (c.self.invariant.2 c.if-self.false t) _ _ _ _ _ (c.as_slice.ensures.value ∙ c.fill.ensures.bytes) (c.in_ok-put.ensures.told t) (c.in_ok-put-2.ensures.told t))

pub returns-in_err-put-clause-lasts : goal.returns-in_err-put-clause-lasts
returns-in_err-put-clause-lasts g c = rw (← c.self.view_is) (λ t. (c.put.ensures.told t).passes.lasts)

pub returns-in_err-put-2-clause-lasts : goal.returns-in_err-put-2-clause-lasts
returns-in_err-put-2-clause-lasts g c = rw (← c.self.view_is) (λ t. lasts_then _ _ _ (c.in_ok-put.ensures.told t).passes.lasts (c.put-2.ensures.told t).passes.lasts)

pub returns-clause-lasts : goal.returns-clause-lasts
returns-clause-lasts g c = rw (← c.self.view_is) (λ t. lasts_then _ _ _ (c.in_ok-put.ensures.told t).passes.lasts (c.in_ok-put-2.ensures.told t).passes.lasts)

pub returns-then-self-clause-any_moment : goal.returns-then-self-clause-any_moment
returns-then-self-clause-any_moment g c = λ t content only. unappended content c.args.piece.now (g.D.Disk.shows c.args.self.now.disk) only

pub returns-then-end-gt-MOST-clause-any_moment : goal.returns-then-end-gt-MOST-clause-any_moment
returns-then-end-gt-MOST-clause-any_moment g c = λ t content only. unappended content c.args.piece.now (g.D.Disk.shows c.args.self.now.disk) only

pub returns-then-self-clause-few : goal.returns-then-self-clause-few
returns-then-self-clause-few g c = λ t. few_none (g.D.Disk.shows c.args.self.now.disk).calls

pub returns-then-end-gt-MOST-clause-few : goal.returns-then-end-gt-MOST-clause-few
returns-then-end-gt-MOST-clause-few g c = λ t. few_none (g.D.Disk.shows c.args.self.now.disk).calls

pub returns-in_err-put-clause-few : goal.returns-in_err-put-clause-few
returns-in_err-put-clause-few g c = rw (← c.self.view_is) (λ t. few_one _ _ (c.put.ensures.told t).few)

pub returns-in_err-put-2-clause-few : goal.returns-in_err-put-2-clause-few
returns-in_err-put-2-clause-few g c = rw (← c.self.view_is) (λ t. few_two _ _ _ (c.in_ok-put.ensures.told t).few (c.put-2.ensures.told t).few)

pub returns-clause-few : goal.returns-clause-few
returns-clause-few g c = rw (← c.self.view_is) (λ t. few_two _ _ _ (c.in_ok-put.ensures.told t).few (c.in_ok-put-2.ensures.told t).few)

pub returns-then-self-clause-closed : goal.returns-then-self-clause-closed
returns-then-self-clause-closed g c = subst (λ a. g.D.Disk.tells → a.stopped ≡ false → IsClosedAt (g.D.Disk.shows a.disk).now a.place) c.self.view_is (λ t e. c.self.invariant.2 e t)

pub returns-then-end-gt-MOST-clause-closed : goal.returns-then-end-gt-MOST-clause-closed
returns-then-end-gt-MOST-clause-closed g c = subst (λ a. g.D.Disk.tells → a.stopped ≡ false → IsClosedAt (g.D.Disk.shows a.disk).now a.place) c.self.view_is (λ t e. c.self.invariant.2 e t)

pub returns-in_err-put-clause-closed : goal.returns-in_err-put-clause-closed
returns-in_err-put-clause-closed g c = subst (λ a. g.D.Disk.tells → a.stopped ≡ false → IsClosedAt (g.D.Disk.shows a.disk).now a.place) c.self.view_is (λ t e. c.self.invariant.2 e t)

pub returns-in_err-put-2-clause-closed : goal.returns-in_err-put-2-clause-closed
returns-in_err-put-2-clause-closed g c = subst (λ a. g.D.Disk.tells → a.stopped ≡ false → IsClosedAt (g.D.Disk.shows a.disk).now a.place) c.self.view_is (λ t e. c.self.invariant.2 e t)

pub returns-clause-closed : goal.returns-clause-closed
returns-clause-closed g c = subst (λ a. g.D.Disk.tells → a.stopped ≡ false → IsClosedAt (g.D.Disk.shows a.disk).now a.place) c.self.view_is (λ t e. c.self.invariant.2 e t)

pub returns-then-self-clause-lasts : goal.returns-then-self-clause-lasts
returns-then-self-clause-lasts g c = λ t. lasts_none (g.D.Disk.shows c.args.self.now.disk)

pub returns-then-end-gt-MOST-clause-lasts : goal.returns-then-end-gt-MOST-clause-lasts
returns-then-end-gt-MOST-clause-lasts g c = λ t. lasts_none (g.D.Disk.shows c.args.self.now.disk)

pub returns-then-self-clause-answers : goal.returns-then-self-clause-answers
returns-then-self-clause-answers g c = (ap (λ a. a.stopped) (sym c.self.view_is) ∙ c.if-self.true, refl)

pub returns-then-end-gt-MOST-clause-answers : goal.returns-then-end-gt-MOST-clause-answers
returns-then-end-gt-MOST-clause-answers g c = ((ap (λ a. a.stopped) (sym c.self.view_is) ∙ c.if-self.false), subst (λ a. most_archive < a.place + 6 + length c.args.piece.now) c.self.view_is c.if-end-gt-MOST.true, refl)

pub overflow_add-end : goal.overflow_add-end
overflow_add-end g c = fits_six c.self.inside.place c.self.invariant.1

pub overflow_add-end-2 : goal.overflow_add-end-2
overflow_add-end-2 g c = fits_end c.self.inside.place (length c.args.piece.now) c.self.invariant.1 c.requires.most

pub overflow_add-self-inside : goal.overflow_add-self-inside
overflow_add-self-inside g c = fits_one c.self.inside.place c.self.invariant.1

pub overflow_sub-self : goal.overflow_sub-self
overflow_sub-self g c = end_some c.self.inside.place (length c.args.piece.now)

pub put-requires : goal.put-requires
put-requires g c = λ t. (c.self.invariant.2 c.if-self.false t).kept

pub put-requires-2 : goal.put-requires-2
put-requires-2 g c = λ t. kept_whole _ _ (c.in_ok-put.ensures.told t).done

pub invariant_of-self : goal.invariant_of-self
invariant_of-self g c = (c.fill.ensures.capacity, c.self.invariant.1, λ e t. absurd (false≢true (sym e)))

pub invariant_of-self-in_err-put-2 : goal.invariant_of-self-in_err-put-2
invariant_of-self-in_err-put-2 g c = (c.fill.ensures.capacity, c.self.invariant.1, λ e t. absurd (false≢true (sym e)))

pub returns-in_err-put-clause-kept : goal.returns-in_err-put-clause-kept
returns-in_err-put-clause-kept g c = failed_on c.from_residual.result _ c.from_residual.ensures.1

pub returns-in_err-put-clause-zero : goal.returns-in_err-put-clause-zero
returns-in_err-put-clause-zero g c = failed_on c.from_residual.result _ c.from_residual.ensures.1

pub returns-in_err-put-clause-answers : goal.returns-in_err-put-clause-answers
returns-in_err-put-clause-answers g c = failed_answers c.args.self.now c.put.new.disk c.self.inside.place (length c.args.piece.now) c.from_residual.result c.from_residual.ensures.1 (ap (λ a. a.stopped) (sym c.self.view_is) ∙ c.if-self.false) (subst (λ a. a.place + 6 + length c.args.piece.now ≤ most_archive) c.self.view_is c.if-end-gt-MOST.false)

pub returns-in_err-put-clause-planned : goal.returns-in_err-put-clause-planned
returns-in_err-put-clause-planned g c = λ t.
    failed_planned (g.D.Disk.shows c.args.self.now.disk) (c.args.self.now.place + 6 + length c.args.piece.now) c.from_residual.result c.from_residual.ensures.1
    (subst (λ a. IsSound (g.D.Disk.shows a.disk) (a.place + 6 + length c.args.piece.now) → ⊥) c.self.view_is (first_unsound _ _ _ _ _ c.requires.most (cc) _ (c.in_err-put.ensures.told t)))

pub returns-in_err-put-2-clause-kept : goal.returns-in_err-put-2-clause-kept
returns-in_err-put-2-clause-kept g c = failed_on c.from_residual-in_err-put-2.result _ c.from_residual-in_err-put-2.ensures.1

pub returns-in_err-put-2-clause-zero : goal.returns-in_err-put-2-clause-zero
returns-in_err-put-2-clause-zero g c = failed_on c.from_residual-in_err-put-2.result _ c.from_residual-in_err-put-2.ensures.1

pub returns-in_err-put-2-clause-answers : goal.returns-in_err-put-2-clause-answers
returns-in_err-put-2-clause-answers g c = failed_answers c.args.self.now c.put-2.new.disk c.self.inside.place (length c.args.piece.now) c.from_residual-in_err-put-2.result c.from_residual-in_err-put-2.ensures.1 (ap (λ a. a.stopped) (sym c.self.view_is) ∙ c.if-self.false) (subst (λ a. a.place + 6 + length c.args.piece.now ≤ most_archive) c.self.view_is c.if-end-gt-MOST.false)

pub returns-in_err-put-2-clause-planned : goal.returns-in_err-put-2-clause-planned
returns-in_err-put-2-clause-planned g c = λ t.
    failed_planned (g.D.Disk.shows c.args.self.now.disk) (c.args.self.now.place + 6 + length c.args.piece.now) c.from_residual-in_err-put-2.result c.from_residual-in_err-put-2.ensures.1
    (subst (λ a. IsSound (g.D.Disk.shows a.disk) (a.place + 6 + length c.args.piece.now) → ⊥) c.self.view_is (second_unsound _ _ _ _ _ c.requires.most (c.as_slice.ensures.value ∙ c.fill.ensures.bytes) _ _ _ (c.in_ok-put.ensures.told t) (c.in_err-put-2.ensures.told t)))

pub returns-in_err-put-clause-cause : goal.returns-in_err-put-clause-cause
returns-in_err-put-clause-cause g c = failed_cause _ _ (g.D.Disk.faults c.put.new.disk) _ c.from_residual.result c.from_residual.ensures.1 (ap (λ a. g.D.Disk.faults a.disk) c.self.view_is) c.in_err-put.ensures.cause

pub returns-in_err-put-2-clause-cause : goal.returns-in_err-put-2-clause-cause
returns-in_err-put-2-clause-cause g c = failed_cause _ _ (g.D.Disk.faults c.put-2.new.disk) _ c.from_residual-in_err-put-2.result c.from_residual-in_err-put-2.ensures.1 (c.in_ok-put.ensures.cause.fine ∙ ap (λ a. g.D.Disk.faults a.disk) c.self.view_is) c.in_err-put-2.ensures.cause

pub returns-clause-answers : goal.returns-clause-answers
returns-clause-answers g c = ((ap (λ a. a.stopped) (sym c.self.view_is) ∙ c.if-self.false), (subst (λ a. a.place + 6 + length c.args.piece.now ≤ most_archive) c.self.view_is c.if-end-gt-MOST.false), refl, sym (end_before c.self.inside.place (length c.args.piece.now)) ∙ ap (λ a. a.place + 5 + length c.args.piece.now) c.self.view_is)

pub returns-clause-cause : goal.returns-clause-cause
returns-clause-cause g c = c.in_ok-put-2.ensures.cause.fine ∙ c.in_ok-put.ensures.cause.fine ∙ ap (λ a. g.D.Disk.faults a.disk) c.self.view_is
