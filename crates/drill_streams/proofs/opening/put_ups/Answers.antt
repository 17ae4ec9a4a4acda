use Rattle.drill_streams.specs.Messages.{IsUp}
use Rattle.drill_streams.proofs.Parts.{range_put}
use Rattle.drill_streams.proofs.opening.put_ups.Goals as goal

pub loop-peer-preserved : goal.loop-peer-preserved
loop-peer-preserved c = range_put IsUp c.loop-peer.peer c.args.out.now c.loop-peer.out c.put_up.new.out c.loop-peer.invariant c.in_ok-put_up.ensures
