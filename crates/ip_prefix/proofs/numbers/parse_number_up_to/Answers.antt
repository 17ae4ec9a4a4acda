use Rattle.std.proofs.Common.{◌≡◌, ◌<◌, ℕ, length, ◌+◌, ◌*◌, arith, eqb-true, eq-eqb, sym, ap, ◌∙◌, get_or, pos_of_ne-zero, true≢false, inl, inr}
use Rattle.std.proofs.lemmas.Bool.{cases_lt}
use Rattle.ip_prefix.proofs.Decimals.{digits_go, value_goes, not_empty, no_leading_zero, all_digits, number_is, too_large, too_great}
use Rattle.ip_prefix.proofs.numbers.parse_number_up_to.Goals as goal

pub returns-then-is_empty-clause-none : goal.returns-then-is_empty-clause-none
returns-then-is_empty-clause-none c n is = not_empty c.args.most c.args.text.now n c.ranges.most.fits is (eqb-true _ 0 (sym c.is_empty.ensures ∙ c.if-is_empty.true))

pub returns-then-has_leading_zero-clause-none : goal.returns-then-has_leading_zero-clause-none
returns-then-has_leading_zero-clause-none c n is =
    let zero = c.has_leading_zero.ensures.0 c.if-has_leading_zero.true in
    no_leading_zero c.args.most c.args.text.now n c.ranges.most.fits is zero.1 zero.0

pub returns-then-number-digit-clause-none : goal.returns-then-number-digit-clause-none
returns-then-number-digit-clause-none c n is =
    let digit = c.in-Some.ensures.some in
    too_large c.args.most c.args.text.now c.loop-byte.byte-index c.loop-byte.number n c.in-Some.digit c.ranges.most.fits is c.loop-byte-test.true c.loop-byte.invariant.value digit.0 digit.1 digit.2 c.if-number-digit.true

pub loop-byte-preserved : goal.loop-byte-preserved
loop-byte-preserved c =
    let digit = c.in-Some.ensures.some in
    record {
      digits = digits_go c.args.text.now c.loop-byte.byte-index c.loop-byte-test.true c.loop-byte.invariant.digits digit.0 digit.1;
      value = ap (λ (d : ℕ). c.loop-byte.number * 10 + d) digit.2 ∙ value_goes c.args.text.now c.loop-byte.byte-index c.loop-byte.number c.loop-byte-test.true c.loop-byte.invariant.value digit.0 digit.1;
    }

pub returns-then-number-most-clause-none : goal.returns-then-number-most-clause-none
returns-then-number-most-clause-none c n is = too_great c.args.most c.args.text.now c.loop-byte.byte-index c.loop-byte.number n c.ranges.most.fits is c.loop-byte-test.false c.loop-byte.invariant.value c.if-number-most.true

pub returns-clause-some : goal.returns-clause-some
returns-clause-some c =
    let some : 0 < length c.args.text.now = pos_of_ne-zero (λ e. true≢false (sym (eq-eqb _ 0 e) ∙ sym c.is_empty.ensures ∙ c.if-is_empty.false)) in
    let single : get_or c.args.text.now 0 0 ≡ 48 → length c.args.text.now ≡ 1 = λ zero. elim (cases_lt 1 (length c.args.text.now)) [
      | inl long ↦ absurd (true≢false (sym (c.has_leading_zero.ensures.1 (long, zero)) ∙ c.if-has_leading_zero.false))
      | inr short ↦ omega (arith, short, some)
    ] in
    number_is c.args.most c.args.text.now c.loop-byte.byte-index c.loop-byte.number c.ranges.most.fits some single c.loop-byte-test.false c.loop-byte.invariant.digits c.loop-byte.invariant.value c.if-number-most.false

pub returns-in_default-clause-none : goal.returns-in_default-clause-none
returns-in_default-clause-none c n is = c.in_default.ensures.none (all_digits c.args.most c.args.text.now n c.ranges.most.fits is c.loop-byte.byte-index c.loop-byte-test.true)
