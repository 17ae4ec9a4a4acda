use Rattle.std.proofs.Common.{arith}
use Rattle.ip_prefix.proofs.WireFront.{four_here}
use Rattle.ip_prefix.proofs.prefixes.Prefix.v4_from_wire.Goals as goal

pub returns-clause-found : goal.returns-clause-found
returns-clause-found c =
    let it = c.in-Some.ensures.found in
    four_here c.args.input.now c.four_after.result c.in-Some.size it.0 c.v4.result it.1 (λ k. omega (arith, c.type_inv.input k)) c.four_after.ensures c.v4.ensures
