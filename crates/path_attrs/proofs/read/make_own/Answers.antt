use Rattle.std.proofs.Common.{arith, refl}
use Rattle.bmp_specs.specs.Attributes.{aggregator, as_path, atomic_aggregate, communities, local_pref, multi_exit_disc, next_hop, origin}
use Rattle.path_attrs.proofs.Making.{aggregator_long}
use Rattle.path_attrs.proofs.read.make_own.Goals as goal

pub make_hop-requires : goal.make_hop-requires
make_hop-requires c = c.requires next_hop (omega arith)

pub make_communities-requires : goal.make_communities-requires
make_communities-requires c = c.requires communities (omega arith)

pub make_as_info-requires-clause-path : goal.make_as_info-requires-clause-path
make_as_info-requires-clause-path c = c.requires as_path (omega arith)

pub make_as_info-requires-clause-aggregator : goal.make_as_info-requires-clause-aggregator
make_as_info-requires-clause-aggregator c = aggregator_long _ _ (c.requires aggregator (omega arith))

pub octet-requires : goal.octet-requires
octet-requires c = c.requires origin (omega arith)

pub number-requires : goal.number-requires
number-requires c = c.requires multi_exit_disc (omega arith)

pub number-requires-2 : goal.number-requires-2
number-requires-2 c = c.requires local_pref (omega arith)

pub is_there-requires : goal.is_there-requires
is_there-requires c = c.requires atomic_aggregate (omega arith)

pub returns : goal.returns
returns c = record {
  origin_is = c.octet.ensures;
  hop_is = c.in_ok-hop.ensures;
  med_is = c.number.ensures;
  pref_is = c.number-2.ensures;
  atomic_is = c.is_there.ensures;
  communities_are = c.in_ok-communities.ensures;
  as_is = c.in_ok-info.ensures;
  others_are = refl;
}
