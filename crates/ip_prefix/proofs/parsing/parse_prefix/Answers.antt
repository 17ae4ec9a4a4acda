use Rattle.ip_prefix.proofs.OneValue.{prefix_only}
use Rattle.ip_prefix.proofs.PrefixReading.{reads, no_slash, no_address, no_number, too_many, not_within}
use Rattle.ip_prefix.proofs.parsing.parse_prefix.Goals as goal

pub returns-in_default-clause-none : goal.returns-in_default-clause-none
returns-in_default-clause-none c = no_slash c.args.text.now c.in_default.ensures

pub returns-in_default-parse_addr-clause-none : goal.returns-in_default-parse_addr-clause-none
returns-in_default-parse_addr-clause-none c = no_address c.args.text.now c.in-Some.slash c.in-Some.ensures c.in_default-parse_addr.ensures.none

pub returns-in_default-parse_number-clause-none : goal.returns-in_default-parse_number-clause-none
returns-in_default-parse_number-clause-none c = no_number c.args.text.now c.in-Some.slash c.in-Some.ensures c.in_default-parse_number.ensures.none

pub returns-then-bits-gt128-clause-none : goal.returns-then-bits-gt128-clause-none
returns-then-bits-gt128-clause-none c = too_many c.args.text.now c.in-Some.slash c.in-Some-parse_number.bits c.in-Some.ensures c.in-Some-parse_number.ensures.some c.if-bits-gt128.true

pub returns-clause-some : goal.returns-clause-some
returns-clause-some c =
    reads c.args.text.now c.in-Some.slash c.in-Some-parse_number.bits c.in-Some-parse_addr.addr c.new.result c.in-Some.ensures c.in-Some-parse_addr.ensures.some c.in-Some-parse_number.ensures.some c.new.ensures.some c.new.ensures.value

pub returns-clause-none : goal.returns-clause-none
returns-clause-none c =
    not_within c.args.text.now c.in-Some.slash c.in-Some-parse_number.bits c.in-Some-parse_addr.addr c.new.result c.in-Some.ensures c.in-Some-parse_addr.ensures.some c.in-Some-parse_number.ensures.some c.new.ensures.some

pub returns-clause-only : goal.returns-clause-only
returns-clause-only c = prefix_only c.args.text.now c.new.result (returns-clause-some c)
