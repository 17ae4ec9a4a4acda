use Rattle.std.proofs.Common.{arith}
use Rattle.as_path.proofs.Reading.{split_joined, number_more, number_all, one_more, one_less, none_left}
use Rattle.as_path.proofs.path.read.numbers.Goals as goal

pub split_at-requires : goal.split_at-requires
split_at-requires c = rw c.width_bytes.ensures (one_more _ _ _ _ c.loop.invariant.left c.loop-test.true)

pub loop-preserved : goal.loop-preserved
loop-preserved c = record {
  read = rw c.in_ok-push.ensures.ok (number_more _ _ _ _ _ _ _ c.loop.invariant.read (split_joined _ _ _ _ c.split_at.ensures.front c.split_at.ensures.back) c.number.ensures);
  left = one_less _ _ _ _ _ c.loop.invariant.left c.loop-test.true (omega (arith, c.split_at.ensures.back_len, c.width_bytes.ensures));
}

pub returns : goal.returns
returns c = number_all _ _ _ _ c.loop.invariant.read (none_left _ _ _ _ c.loop.invariant.left c.loop-test.false)
