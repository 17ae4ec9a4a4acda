use Rattle.drill_streams.proofs.Drawing.{stream_put}
use Rattle.drill_streams.proofs.stream.drill_stream.Goals as goal

pub returns : goal.returns
returns c = stream_put c.args.seed c.args.lane c.args.messages c.new-out.result c.put_name.new.out c.put_ups.new.out c.put_drawn.new.out c.new-out.ensures c.in_ok-put_name.ensures c.in_ok-put_ups.ensures c.in_ok-put_drawn.ensures
