use Rattle.std.proofs.Common.{refl, arith, ap}
use Rattle.cut_publisher.specs.History.{Site}
use Rattle.ask_session.specs.Sessions.{Session}
use Rattle.ask_session.proofs.Serving.{sees_then, serves_more, served_fewer}
use Rattle.ask_session.proofs.session.serve_session.Goals as goal

pub returns-then-not-opens-clause-served : goal.returns-then-not-opens-clause-served
returns-then-not-opens-clause-served g c =
    let e = c.if-not-opens.ensures in
    served_fewer c.args.pass.now.station.lanes c.args.rounds _ _ _ _ _ _ _ _ _ _ _ c.loop-served.served c.loop-served.invariant.serves (omega arith) (e.refuses refl) e.told e.calm

pub loop-served-preserved : goal.loop-served-preserved
loop-served-preserved g c =
    let e = c.if-not-opens.ensures in
    let v = c.converse.ensures in
    let lanes = ap (λ (x : Site). x.lanes) c.loop-served.invariant.sees.station in
    let s : Session = record { seen = c.converse.new.pass.seen; opened = g.K.Sink.aside c.opens.new.link; ended = g.K.Sink.aside c.converse.new.link; closed = g.K.Sink.aside c.close.new.self; input = v.talk.0; told0 = g.K.Sink.told c.opens.new.link; told1 = g.K.Sink.told c.converse.new.link; writes = g.K.Sink.faults c.converse.new.link; close = c.converse.result } in
    record {
      sees = sees_then c.args.pass.now c.loop-served.pass c.converse.new.pass c.loop-served.invariant.sees v.sees;
      serves = serves_more c.args.pass.now.station.lanes c.args.pass.now.seen c.loop-served.pass.seen c.converse.new.pass.seen _ _ _ _ _ _ _ (g.K.Sink.faults c.loop-served.link) _ c.loop-served.served s c.loop-served.invariant.serves (record {
        sees = v.sees.seen;
        opens = e.opens refl;
        told_is = e.told;
        talk = rw (e.calm, lanes) at v.talk.1;
        closes = c.close.ensures.closes;
        seen_is = refl;
        aside_is = refl;
        after = c.close.ensures.told;
        writes_is = c.close.ensures.calm;
      });
      most = omega arith;
    }

pub converse-requires-clause-fresh : goal.converse-requires-clause-fresh
converse-requires-clause-fresh g c = (c.if-not-opens.ensures.opens refl).opens.taken
