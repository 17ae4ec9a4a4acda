use Rattle.std.proofs.Common.{◌∙◌}
use Rattle.route_runs.proofs.NumberBytes.{octets6_is}
use Rattle.route_runs.proofs.key_address.Tuple2U64U64KeyAddress.addr.Goals as goal

pub returns-clause-octets : goal.returns-clause-octets
returns-clause-octets c = c.v6.ensures.octets ∙ octets6_is _ _ _ _ c.to_be_bytes.ensures c.to_be_bytes-2.ensures
