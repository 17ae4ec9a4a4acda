use Rattle.std.proofs.lemmas.Result.{on_ok_weaker}
use Rattle.bgp_update.specs.Framed.{framed_value}
use Rattle.bgp_update.proofs.Framing.{contained_are}
use Rattle.bgp_update.proofs.frame.add_contained.Goals as goal

pub returns : goal.returns
returns c = on_ok_weaker c.add_multi-2.result (contained_are c.args.ids (framed_value c.args.framed.now) _ _ _ _ _ c.in_ok-add_items.ensures c.in_ok-add_multi.ensures c.in_ok-add_items-2.ensures) c.add_multi-2.ensures
