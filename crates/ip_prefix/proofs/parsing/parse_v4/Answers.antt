use Rattle.std.proofs.Common.{ap, ◌∙◌}
use Rattle.bmp_specs.specs.Prefix.{padded}
use Rattle.ip_prefix.proofs.AddressReading.{v4_reads, v4_none}
use Rattle.ip_prefix.proofs.parsing.parse_v4.Goals as goal

pub returns-in-Ok-clause-some : goal.returns-in-Ok-clause-some
returns-in-Ok-clause-some c =
    v4_reads c.args.text.now c.in-Ok.address.octets c.v4.result (c.in-Ok.ensures) c.v4.ensures.family (c.v4.ensures.octets ∙ ap padded c.octets.ensures)

pub returns-in-Err-clause-none : goal.returns-in-Err-clause-none
returns-in-Err-clause-none c = v4_none c.args.text.now c.requires (λ numbers. c.in-Err.ensures (record { octets = numbers }))
