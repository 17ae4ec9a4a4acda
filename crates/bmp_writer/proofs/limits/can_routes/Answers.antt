use Rattle.bmp_writer.proofs.Carrying.{carry_moved}
use Rattle.bmp_writer.proofs.GivenRead.{can_given, given_can}
use Rattle.bmp_writer.proofs.limits.can_routes.Goals as goal

pub returns-then-can_carry : goal.returns-then-can_carry
returns-then-can_carry c = (
  λ t. (carry_moved c.args.key.now c.args.view c.as_slice-withdrawn.result.now c.args.withdrawn.now c.as_slice-announced.result.now c.args.announced.now c.args.attrs.now c.as_slice-withdrawn.ensures c.as_slice-announced.ensures (c.can_carry.ensures.0 c.if-can_carry.true), can_given c.args.attrs.now (c.can_be_given.ensures.0 t)),
  λ p. c.can_be_given.ensures.1 (given_can c.args.attrs.now p.1),
)
