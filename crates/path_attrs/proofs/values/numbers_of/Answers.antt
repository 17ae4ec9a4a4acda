use Rattle.std.proofs.Common.{arith}
use Rattle.path_attrs.proofs.Keeping.{numbers_more, numbers_end}
use Rattle.path_attrs.proofs.values.numbers_of.Goals as goal

pub loop-rest-preserved : goal.loop-rest-preserved
loop-rest-preserved c = record {
  read = rw c.in_ok-push.ensures.ok (numbers_more _ _ _ _ _ _ c.loop-rest.invariant.read c.split_at.ensures.front c.split_at.ensures.back c.split_at.ensures.front_len c.read_u32.ensures);
  whole = omega (arith, c.split_at.ensures.back_len, c.loop-rest.invariant.whole);
}

pub returns : goal.returns
returns c = numbers_end _ _ _ c.loop-rest.invariant.read c.loop-rest.invariant.whole c.loop-rest-test.false
