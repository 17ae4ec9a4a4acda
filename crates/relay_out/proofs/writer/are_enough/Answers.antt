use Rattle.std.proofs.Common.{◌<◌, arith}
use Rattle.relay_out.proofs.OneForm.{all_at}
use Rattle.relay_out.proofs.writer.are_enough.Goals as goal

pub returns : goal.returns
returns c = record { octets = all_at (λ b. b < 256) c.args.octets.now (λ i. let fits = c.type_inv.octets i in omega (arith, fits)) }
