use Rattle.std.proofs.Common.{refl}
use Rattle.bmp_specs.specs.Lines.{stop_line}
use Rattle.wire_io.proofs.Joins.{join, more}
use Rattle.station_top.proofs.Concluding.{stopped}
use Rattle.station_top.proofs.alone.StoppedPuts.put.Goals as goal

pub returns-in_err-put_reply : goal.returns-in_err-put_reply
returns-in_err-put_reply g c entries tells =
    let reply = c.in_err-put_reply.ensures entries tells in
    stopped _ _ _ _ reply.text reply.is_reply (more _ _ _ (stop_line c.args.self.cause) _ _ _ reply.written c.from_residual.ensures.0 refl)

pub returns : goal.returns
returns g c entries tells =
    let reply = c.in_ok-put_reply.ensures entries tells in
    stopped _ _ _ _ reply.text reply.is_reply (join _ _ _ _ _ _ _ _ reply.written c.put_stop.ensures refl)
