use Rattle.std.proofs.Common.{◌≡◌, ◌<◌, ◌≤◌, ◌++◌, ℕ, length, take, drop, arith, sym, ap, length-take, [], ◌≢◌, ◌∙◌}
use Rattle.std.proofs.lemmas.List.{take-append-le}
use Rattle.cut_publisher.specs.History.{Site}
use Rattle.station_doors.specs.Doors.{read_of, most_heard}
use Rattle.ask_session.proofs.Reading.{piece_ok, piece_err, read_some}
use Rattle.ask_session.proofs.Living.{lives_begin, lives_next, conversed_early, conversed_end, conversed_full, conversed_fault}
use Rattle.ask_session.proofs.Serving.{sees_self, sees_then}
use Rattle.ask_session.proofs.connection.converse.Goals as goal

pub returns-in-Ok-eq0-clause-talk : goal.returns-in-Ok-eq0-clause-talk
returns-in-Ok-eq0-clause-talk g c =
    let e = c.in-Ok-eq0.ensures in
    let zero : c.in-Ok-eq0.field-0 ≡ 0 = c.in-Ok-eq0.field-0-test in
    let room : 0 < length c.read.new.buf = omega (arith, length-take c.min-room.result c.loop-taken.buf) in
    let none : take c.in-Ok-eq0.field-0 c.read.new.buf ≡ [] = ap (λ (n : ℕ). take n c.read.new.buf) zero in
    let piece = piece_ok (g.K.Sink.aside c.loop-taken.link) (g.K.Sink.aside c.read.new.self) c.in-Ok-eq0.field-0 c.read.new.buf e.reads (ap length none ∙ sym zero) in
    conversed_end c.args.pass.now.station.lanes c.loop-taken.pass.station.lanes (ap (λ (x : Site). x.lanes) c.loop-taken.invariant.sees.station) _ _ _ _ _ _ _ _ _ _ _ _ _ _ _ _ _ _ _ c.loop-taken.invariant.lives piece e.told e.calm e.reads.cause.fine
    (omega (arith, ap length none, c.loop-taken.invariant.lives.few)) c.hear_last.ensures.kept c.hear_last.result none (ap read_of zero) (e.reads.rest.1 zero room) c.hear_last.ensures.ends

pub returns-in-Some-clause-talk : goal.returns-in-Some-clause-talk
returns-in-Some-clause-talk g c =
    let e = c.in-Ok.ensures in
    let len : length (take c.in-Ok.n c.read.new.buf) ≡ c.in-Ok.n = sym e.bound.1 in
    let some : c.in-Ok.n ≢ 0 = c.in-Ok.n-test.1 in
    let short : length (take c.in-Ok.n c.read.new.buf) ≤ most_heard = omega (arith, len, e.bound.0, length-take c.min-room.result c.loop-taken.buf) in
    let same : take c.in-Ok.n (c.read.new.buf ++ drop c.min-room.result c.loop-taken.buf) ≡ take c.in-Ok.n c.read.new.buf = take-append-le c.in-Ok.n c.read.new.buf (drop c.min-room.result c.loop-taken.buf) e.bound.0 in
    let hears = rw same at c.in-Some.ensures.hears in
    let piece = piece_ok (g.K.Sink.aside c.loop-taken.link) (g.K.Sink.aside c.read.new.self) c.in-Ok.n c.read.new.buf e.reads len in
    conversed_early c.args.pass.now.station.lanes c.loop-taken.pass.station.lanes (ap (λ (x : Site). x.lanes) c.loop-taken.invariant.sees.station) _ _ _ _ _ _ _ _ _ _ _ _ _ _ _ _ _ _ _ c.loop-taken.invariant.lives piece e.told e.calm e.reads.cause.fine
    (omega (arith, len, e.bound.0, length-take c.min-room.result c.loop-taken.buf)) c.in-Some.ensures.kept c.in-Some.close hears.0 (read_some c.in-Ok.n some) short hears.1

pub returns-in-Err-clause-talk : goal.returns-in-Err-clause-talk
returns-in-Err-clause-talk g c = conversed_fault c.args.pass.now.station.lanes _ _ c.loop-taken.pass.seen (g.K.Sink.aside c.args.link.now) (g.K.Sink.aside c.loop-taken.link) (g.K.Sink.aside c.read.new.self) _ _ _ _ _ _ _ _ c.loop-taken.invariant.lives
    _ _ _ (piece_err (g.K.Sink.aside c.loop-taken.link) (g.K.Sink.aside c.read.new.self) _ c.read.new.buf c.in-Err.ensures.reads) c.in-Err.ensures.planned c.in-Err.ensures.told c.in-Err.ensures.calm c.in-Err.ensures.reads.cause.failed

pub returns-clause-talk : goal.returns-clause-talk
returns-clause-talk g c = conversed_full c.args.pass.now.station.lanes _ _ _ _ _ _ _ _ _ _ _ _ _ _ c.loop-taken.invariant.lives c.loop-taken.pass.station.lanes (ap (λ (x : Site). x.lanes) c.loop-taken.invariant.sees.station)
    c.hear_last-2.result (omega arith) c.hear_last-2.ensures.kept c.hear_last-2.ensures.ends

pub loop-taken-init : goal.loop-taken-init
loop-taken-init g c = record {
  sees = sees_self c.args.pass.now;
  lives = rw c.new-line.ensures (lives_begin c.args.pass.now.station.lanes c.args.pass.now.seen (g.K.Sink.aside c.args.link.now) (g.K.Sink.told c.args.link.now) (g.K.Sink.faults c.args.link.now));
}

pub loop-taken-preserved : goal.loop-taken-preserved
loop-taken-preserved g c =
    let e = c.in-Ok.ensures in
    let len : length (take c.in-Ok.n c.read.new.buf) ≡ c.in-Ok.n = sym e.bound.1 in
    let some : c.in-Ok.n ≢ 0 = c.in-Ok.n-test.1 in
    let same : take c.in-Ok.n (c.read.new.buf ++ drop c.min-room.result c.loop-taken.buf) ≡ take c.in-Ok.n c.read.new.buf = take-append-le c.in-Ok.n c.read.new.buf (drop c.min-room.result c.loop-taken.buf) e.bound.0 in
    let hears = rw same at c.in_default.ensures.hears in
    let piece = piece_ok (g.K.Sink.aside c.loop-taken.link) (g.K.Sink.aside c.read.new.self) c.in-Ok.n c.read.new.buf e.reads len in
    record {
      sees = sees_then c.args.pass.now c.loop-taken.pass c.hear.new.pass c.loop-taken.invariant.sees c.in_default.ensures.sees;
      lives = lives_next c.args.pass.now.station.lanes c.loop-taken.pass.station.lanes (ap (λ (x : Site). x.lanes) c.loop-taken.invariant.sees.station) _ _ _ _ _ _ _ _ _ _ _ _ _ _ _ _ _ _ _ c.loop-taken.invariant.lives piece e.told e.calm e.reads.cause.fine
          (omega (arith, len, e.bound.0, length-take c.min-room.result c.loop-taken.buf)) c.in_default.ensures.kept c.hear.new.line c.in-Ok.n (sym len) (read_some c.in-Ok.n some) hears;
    }

pub returns-in-Ok-eq0-clause-sees : goal.returns-in-Ok-eq0-clause-sees
returns-in-Ok-eq0-clause-sees g c = sees_then c.args.pass.now c.loop-taken.pass c.hear_last.new.pass c.loop-taken.invariant.sees c.hear_last.ensures.sees

pub returns-in-Some-clause-sees : goal.returns-in-Some-clause-sees
returns-in-Some-clause-sees g c = sees_then c.args.pass.now c.loop-taken.pass c.hear.new.pass c.loop-taken.invariant.sees c.in-Some.ensures.sees

pub returns-in-Err-clause-sees : goal.returns-in-Err-clause-sees
returns-in-Err-clause-sees g c = c.loop-taken.invariant.sees

pub returns-clause-sees : goal.returns-clause-sees
returns-clause-sees g c = sees_then c.args.pass.now c.loop-taken.pass c.hear_last-2.new.pass c.loop-taken.invariant.sees c.hear_last-2.ensures.sees

pub hear_last-requires-clause-plain : goal.hear_last-requires-clause-plain
hear_last-requires-clause-plain g c = c.loop-taken.invariant.lives.goes.plain

pub hear_last-requires-clause-few : goal.hear_last-requires-clause-few
hear_last-requires-clause-few g c = c.loop-taken.invariant.lives.goes.few

pub hear-requires-clause-plain : goal.hear-requires-clause-plain
hear-requires-clause-plain g c = c.loop-taken.invariant.lives.goes.plain

pub hear-requires-clause-few : goal.hear-requires-clause-few
hear-requires-clause-few g c = c.loop-taken.invariant.lives.goes.few

pub hear_last-requires-2-clause-plain : goal.hear_last-requires-2-clause-plain
hear_last-requires-2-clause-plain g c = c.loop-taken.invariant.lives.goes.plain

pub hear_last-requires-2-clause-few : goal.hear_last-requires-2-clause-few
hear_last-requires-2-clause-few g c = c.loop-taken.invariant.lives.goes.few

pub read-requires-clause-is_open : goal.read-requires-clause-is_open
read-requires-clause-is_open g c = c.loop-taken.invariant.lives.reads.stays.is_open ∙ c.requires.is_open

pub read-requires-clause-size : goal.read-requires-clause-size
read-requires-clause-size g c =
    let l = c.loop-taken in
    omega (arith, l.invariant.lives.reads.taken c.requires.fresh, l.invariant.lives.count, length-take c.min-room.result l.buf)
