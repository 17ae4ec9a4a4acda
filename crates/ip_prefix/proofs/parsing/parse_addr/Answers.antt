use Rattle.ip_prefix.proofs.OneValue.{address_only}
use Rattle.ip_prefix.proofs.parsing.parse_addr.Goals as goal

pub returns-then-has_dot-clause-only : goal.returns-then-has_dot-clause-only
returns-then-has_dot-clause-only c = address_only c.args.text.now c.parse_v4.result c.parse_v4.ensures.some

pub returns-else-has_dot-clause-only : goal.returns-else-has_dot-clause-only
returns-else-has_dot-clause-only c = address_only c.args.text.now c.parse_v6.result c.parse_v6.ensures.some
