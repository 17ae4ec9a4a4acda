use Rattle.std.proofs.Common.{arith, refl}
use Rattle.as_path.proofs.Passing.{numbers_end, numbers_more, numbers_not}
use Rattle.as_path.proofs.Reading.{split_joined, one_more, one_less, none_left}
use Rattle.as_path.proofs.path.zero.none_zero.Goals as goal

pub split_at-requires : goal.split_at-requires
split_at-requires c = rw c.width_bytes.ensures (one_more _ _ _ _ c.loop.invariant.left c.loop-test.true)

pub returns-then-number-eq0 : goal.returns-then-number-eq0
returns-then-number-eq0 c asns are = (
  λ yes. absurd (cc yes),
  λ all. absurd (numbers_not _ _ _ _ _ _ c.loop.invariant.passes (split_joined _ _ _ _ c.split_at.ensures.front c.split_at.ensures.back) c.number.ensures c.if-number-eq0.true asns are all),
)

pub loop-preserved : goal.loop-preserved
loop-preserved c = record {
  passes = numbers_more _ _ _ _ _ _ c.loop.invariant.passes (split_joined _ _ _ _ c.split_at.ensures.front c.split_at.ensures.back) c.number.ensures c.if-number-eq0.false;
  left = one_less _ _ _ _ _ c.loop.invariant.left c.loop-test.true (omega (arith, c.split_at.ensures.back_len, c.width_bytes.ensures));
}

pub returns : goal.returns
returns c asns are = (λ _. numbers_end _ _ _ c.loop.invariant.passes (none_left _ _ _ _ c.loop.invariant.left c.loop-test.false) asns are, λ _. refl)
