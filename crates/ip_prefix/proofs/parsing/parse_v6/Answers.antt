use Rattle.std.proofs.Common.{◌∙◌}
use Rattle.ip_prefix.proofs.AddressReading.{v6_reads, v6_none}
use Rattle.ip_prefix.proofs.parsing.parse_v6.Goals as goal

pub returns-in-Ok-clause-some : goal.returns-in-Ok-clause-some
returns-in-Ok-clause-some c =
    v6_reads c.args.text.now c.in-Ok.address.segments c.v6.result c.requires c.in-Ok.ensures c.v6.ensures.family (c.v6.ensures.octets ∙ c.octets.ensures)

pub returns-in-Err-clause-none : goal.returns-in-Err-clause-none
returns-in-Err-clause-none c = v6_none c.args.text.now c.requires (λ groups. c.in-Err.ensures (record { segments = groups }))
