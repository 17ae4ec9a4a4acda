use Rattle.std.proofs.Common.{[]}
use Rattle.bmp_specs.specs.Session.{session_effects}
use Rattle.relay_out.specs.Messages.{stream_items}
use Rattle.relay_out.specs.Tables.{stream_of}
use Rattle.relay_out.proofs.Emitting.{any_may, emitted_counted, emitted_kept, refused, refused_counted, relays}
use Rattle.relay_out.proofs.TablesTold.{is_told}
use Rattle.relay_out.proofs.relay.emit.Goals as goal

pub returns-in_err-hand_all-clause-relays : goal.returns-in_err-hand_all-clause-relays
returns-in_err-hand_all-clause-relays g c = λ entries stands.
    let s = c.in_err-hand_all.ensures.err [] tt in
    refused g.O.Sink.faults g.O.Sink.told g.O.Sink.aside (session_effects entries) (stream_of c.args.tables.now) (is_told c.args.tables.now entries stands c.see_order.ensures) c.args.out.now s.first s.rest _ c.from_residual.result s.split s.is c.from_residual.ensures.1

pub returns-clause-relays : goal.returns-clause-relays
returns-clause-relays g c = λ entries stands.
    relays g.O.Sink.faults g.O.Sink.told g.O.Sink.aside (session_effects entries) (stream_of c.args.tables.now) (is_told c.args.tables.now entries stands c.see_order.ensures) c.args.out.now c.write_stream.new.out c.write_stream.result (c.in_ok-hand_all.ensures.ok [] tt) c.write_stream.ensures

pub returns-in_err-hand_all-clause-counted : goal.returns-in_err-hand_all-clause-counted
returns-in_err-hand_all-clause-counted g c =
    let s = c.in_err-hand_all.ensures.err [] tt in
    refused_counted g.O.Sink.faults g.O.Sink.told g.O.Sink.aside s.first (g.O.Sink.faults c.args.out.now) _ c.from_residual.result s.is c.from_residual.ensures.1

pub returns-clause-kept : goal.returns-clause-kept
returns-clause-kept g c = emitted_kept g.O.Sink.faults g.O.Sink.told g.O.Sink.aside (stream_items (stream_of c.args.tables.now)) c.args.out.now c.write_stream.new.out c.write_stream.result c.write_stream.ensures

pub returns-clause-counted : goal.returns-clause-counted
returns-clause-counted g c = emitted_counted g.O.Sink.faults g.O.Sink.told g.O.Sink.aside (stream_items (stream_of c.args.tables.now)) c.args.out.now c.write_stream.new.out c.write_stream.result c.write_stream.ensures

pub hand_all-requires : goal.hand_all-requires
hand_all-requires g c = any_may g.O.Sink.faults g.O.Sink.told g.O.Sink.aside (stream_items (stream_of c.args.tables.now))

pub write_stream-requires : goal.write_stream-requires
write_stream-requires g c = c.in_ok-hand_all.ensures.ok [] tt
