use Rattle.std.proofs.Common.{◌∙◌}
use Rattle.route_runs.proofs.NumberBytes.{octets4_is}
use Rattle.route_runs.proofs.key_address.U32KeyAddress.addr.Goals as goal

pub returns-clause-octets : goal.returns-clause-octets
returns-clause-octets c = c.v4.ensures.octets ∙ octets4_is _ _ c.to_be_bytes.ensures
