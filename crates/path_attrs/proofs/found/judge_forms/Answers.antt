use Rattle.std.proofs.Common.{◌≡◌, ◌<◌, length, arith, rules}
use Rattle.std.proofs.lemmas.Bool.{iff_false}
use Rattle.path_attrs.proofs.Counting.{counts_most}
use Rattle.path_attrs.proofs.Gathering.{judges_first, judges_reach, judges_unreach, judges_other, judges_end}
use Rattle.path_attrs.proofs.Judging.{judges_stuck, judges_twice, judges_unfit}
use Rattle.path_attrs.proofs.found.judge_forms.Goals as goal
use Rattle.path_attrs.proofs.found.judge_forms.Goals.{then-part-eq-MP_REACH_NLRI, else-part-eq-MP_REACH_NLRI+then-part-eq-MP_UNREACH_NLRI, else-part-eq-MP_REACH_NLRI+else-part-eq-MP_UNREACH_NLRI}

pub loop-rest-init : goal.loop-rest-init
loop-rest-init c = judges_first _ _

pub returns-in_default-clause-none : goal.returns-in_default-clause-none
returns-in_default-clause-none c =
    let some : 0 < length c.loop-rest.rest.now = search rules in
    judges_stuck _ _ _ _ _ _ _ c.loop-rest.invariant some c.in_default.ensures.none

pub returns-then-seen-code-clause-none : goal.returns-then-seen-code-clause-none
returns-then-seen-code-clause-none c = judges_twice _ _ _ _ _ _ _ _ _ c.loop-rest.invariant c.in-Some.ensures.found c.if-seen-code.true

pub returns-then-not-has_form-clause-none : goal.returns-then-not-has_form-clause-none
returns-then-not-has_form-clause-none c = judges_unfit _ _ _ _ _ _ _ _ _ c.loop-rest.invariant c.in-Some.ensures.found c.if-seen-code.false (iff_false c.has_form.ensures c.if-not-has_form.true)

pub overflow_add-count : goal.overflow_add-count
overflow_add-count c = omega (arith, counts_most _ _ _ _ c.loop-rest.invariant.counts)

pub returns-clause-some : goal.returns-clause-some
returns-clause-some c =
    let none : length c.loop-rest.rest.now ≡ 0 = search rules in
    judges_end _ _ _ _ _ _ _ c.loop-rest.invariant none

pub loop-rest-preserved : goal.loop-rest-preserved
loop-rest-preserved c =
    let j = c.loop-rest.invariant in
    let here = c.in-Some.ensures.found in
    let octet = c.in-Some.ensures.octet in
    let fresh = c.if-seen-code.false in
    let fits = c.has_form.ensures.0 c.if-not-has_form.false in
    elim c.if-part-eq-MP_REACH_NLRI.branch [
      | then-part-eq-MP_REACH_NLRI w ↦ rw w.reach-is (rw w.unreach-is (judges_reach _ _ _ _ _ _ _ _ _ j here octet fresh fits w.if-part-eq-MP_REACH_NLRI.true))
      | else-part-eq-MP_REACH_NLRI+then-part-eq-MP_UNREACH_NLRI w ↦ rw w.reach-is (rw w.unreach-is (judges_unreach _ _ _ _ _ _ _ _ _ j here octet fresh fits w.if-part-eq-MP_UNREACH_NLRI.true))
      | else-part-eq-MP_REACH_NLRI+else-part-eq-MP_UNREACH_NLRI w ↦ rw w.reach-is (rw w.unreach-is (
          judges_other _ _ _ _ _ _ _ _ _ j here octet fresh fits w.if-part-eq-MP_REACH_NLRI.false w.if-part-eq-MP_UNREACH_NLRI.false))
    ]
