use Rattle.std.proofs.Common.{◌∷◌}
use Rattle.bmp_specs.specs.Openings.{nothing_told}
use Rattle.bmp_specs.specs.Values.{opened}
use Rattle.station_top.specs.Replay.{Gathers}
use Rattle.station_top.proofs.Relaying.{relay_concludes, relay_counts, relay_unsettled, relay_untaken}
use Rattle.station_top.proofs.alone.run_relay.Goals as goal

pub returns-in-Ok-into_tables-clause-concludes : goal.returns-in-Ok-into_tables-clause-concludes
returns-in-Ok-into_tables-clause-concludes g c =
    let t = c.in-Ok.ensures.from in
    relay_concludes g.O.Sink.faults g.O.Sink.told g.O.Sink.aside g.R.BodyReading.meaning (Gathers c.in-Ok.replay) (g.Y.Yard.seen c.args.yard.now).told (g.Y.Yard.seen c.take_from.new.yard).told (g.Y.Yard.seen c.args.yard.now).calls c.in-Ok.taken t c.args.out.now c.emit-relay.new.out c.emit-relay.result c.status_relayed_by.result
    (c.emit-relay.ensures.relays (opened nothing_told ∷ t.messages) (c.in-Ok-into_tables.ensures (opened nothing_told ∷ t.messages) t.noted)) c.status_relayed_by.ensures

pub returns-in-Ok-into_tables-clause-out : goal.returns-in-Ok-into_tables-clause-out
returns-in-Ok-into_tables-clause-out g c = relay_counts c.in-Ok.taken.cause c.status_relayed_by.result _ _ c.emit-relay.result c.emit-relay.ensures.counted c.status_relayed_by.ensures

pub returns-in-Err-into_tables-clause-concludes : goal.returns-in-Err-into_tables-clause-concludes
returns-in-Err-into_tables-clause-concludes g c = relay_unsettled g.R.BodyReading.meaning (Gathers c.in-Ok.replay) (g.Y.Yard.seen c.args.yard.now).told (g.Y.Yard.seen c.take_from.new.yard).told (g.Y.Yard.seen c.args.yard.now).calls c.in-Ok.taken (g.O.Sink.told c.args.out.now) c.in-Ok.ensures.from

pub returns-in-Err-clause-concludes : goal.returns-in-Err-clause-concludes
returns-in-Err-clause-concludes g c = relay_untaken g.R.BodyReading.meaning Gathers (g.Y.Yard.seen c.args.yard.now).told (g.Y.Yard.seen c.take_from.new.yard).told (g.Y.Yard.seen c.args.yard.now).calls (g.O.Sink.told c.args.out.now) c.in-Err.status c.in-Err.ensures.from
