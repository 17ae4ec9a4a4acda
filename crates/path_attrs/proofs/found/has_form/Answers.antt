use Rattle.std.proofs.Common.{arith}
use Rattle.path_attrs.proofs.Judging.{aggregator_form, other_form}
use Rattle.path_attrs.proofs.found.has_form.Goals as goal

pub returns-in-2 : goal.returns-in-2
returns-in-2 c = rw c.in-2.is c.is_path.ensures

pub returns-in-7 : goal.returns-in-7
returns-in-7 c = rw c.in-7.is (aggregator_form _ _ _ c.width_bytes.ensures)

pub returns-in_default : goal.returns-in_default
returns-in_default c = other_form c.args.width c.args.code c.args.value.now c.has_shape.result (omega arith) (omega arith) c.has_shape.ensures
