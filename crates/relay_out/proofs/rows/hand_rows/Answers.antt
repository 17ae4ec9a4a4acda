use Rattle.std.proofs.Common.{List, sym, subst}
use Rattle.bmp_specs.specs.declared.peers.View.{View}
use Rattle.relay_out.specs.Handed.{Hands}
use Rattle.relay_out.proofs.Steps.{items_of_views}
use Rattle.std.specs.List.{AllByRecursion}
use Rattle.relay_out.proofs.rows.hand_rows.Goals as goal

pub returns : goal.returns
returns g c = subst (λ (vs : List View). Hands g.T.Takes.of g.T.Takes.took g.T.Takes.stopped (items_of_views c.args.info.now c.args.tables.now.tables c.args.key.now vs) c.args.taker.now c.hand_views.result c.hand_views.new.taker) c.views.ensures c.hand_views.ensures

pub hand_views-requires : goal.hand_views-requires
hand_views-requires g c = subst (λ (vs : List View). AllByRecursion g.T.Takes.may (items_of_views c.args.info.now c.args.tables.now.tables c.args.key.now vs)) (sym c.views.ensures) c.requires
