use Rattle.std.proofs.Common.{refl}
use Rattle.path_attrs.proofs.Making.{read_is}
use Rattle.path_attrs.proofs.read.read_attrs.Goals as goal

pub make_attrs-requires : goal.make_attrs-requires
make_attrs-requires c = (c.in-Some.judged, c.in-Some.ensures.some)

pub returns-clause-ok : goal.returns-clause-ok
returns-clause-ok c = let j = c.in-Some.ensures.some in read_is _ _ _ j _ (c.in_ok-attrs.ensures j.read j.are) c.in_ok-reach.ensures c.in_ok-unreach.ensures refl
