use Rattle.std.proofs.Common.{rules, ap, ◌∙◌, ◌≡◌, ◌<◌, ◌≤◌, ◌+◌, ◌++◌, List, [], ◌∷◌, ℕ, refl, sym, subst, length, take, drop, length-append, length-drop, length-take, arith}
use Rattle.std.proofs.lemmas.List.{take-append-le}
use Rattle.bmp_specs.specs.Values.{OpeningValue, opened}
use Rattle.feed_worker.specs.Connection.{BreaksConnection}
use Rattle.feed_worker.specs.FeedPort.{IsPresent}
use Rattle.feed_worker.specs.Front.{IsFront}
use Rattle.feed_worker.specs.Opening.{opening_of}
use Rattle.feed_worker.specs.Publishing.{Grows}
use Rattle.feed_worker.proofs.Taking.{taking_none, taking_more, is_present, is_published, ends, ends_early, faults, fills, breaks, breaks_none}
use Rattle.feed_worker.proofs.connection.take_by.Goals as goal

pub returns-in_err-publish_entries-clause-taken : goal.returns-in_err-publish_entries-clause-taken
returns-in_err-publish_entries-clause-taken g c =
    let none : BreaksConnection g.B.BodyReading.meaning (opening_of (g.P.FeedPort.tells c.args.port.now)) (g.P.FeedPort.last_began c.args.port.now) (g.P.FeedPort.aside c.args.port.now) (g.P.FeedPort.aside c.args.port.now) c.args.pass.now c.publish_entries.new.pass =
    breaks_none g.B.BodyReading.meaning (opening_of (g.P.FeedPort.tells c.args.port.now)) (g.P.FeedPort.last_began c.args.port.now) (g.P.FeedPort.aside c.args.port.now) c.args.pass.now c.publish_entries.new.pass c.requires.new c.in_err-publish_entries.ensures in
    search rules

pub loop-taken-init : goal.loop-taken-init
loop-taken-init g c =
    let told : opening_of c.told-came.result ≡ opening_of (g.P.FeedPort.tells c.args.port.now) = ap opening_of c.told-came.ensures in
    let begun : Grows c.args.pass.now c.publish_entries.new.pass (opened (opening_of (g.P.FeedPort.tells c.args.port.now)) ∷ []) =
    subst (λ (o : OpeningValue). Grows c.args.pass.now c.publish_entries.new.pass (opened o ∷ [])) (ap opening_of c.came.view_is ∙ told) c.in_ok-publish_entries.ensures in
    record {
      taking = taking_none g.B.BodyReading.meaning g.B.BodyReading.state (opening_of (g.P.FeedPort.tells c.args.port.now)) (g.P.FeedPort.aside c.args.port.now) c.args.pass.now c.publish_entries.new.pass c.args.walk.now c.new-front.result.octets c.requires.new begun c.requires.unfed c.requires.start c.new-front.ensures;
      within = omega arith;
      room = refl;
      causes = refl;
      tells = refl;
    }

pub read-requires-clause-published : goal.read-requires-clause-published
read-requires-clause-published g c = is_published g.B.BodyReading.meaning g.B.BodyReading.state _ _ _ _ _ _ _ _ c.loop-taken.invariant.taking c.requires.new

pub publish_piece-requires-clause-room : goal.publish_piece-requires-clause-room
publish_piece-requires-clause-room g c =
    let l = c.loop-taken in
    let m = c.in-Ok.count in
    let buf = c.read.new.buf in
    let within : m ≤ length buf = omega (arith, c.in-Ok.ensures.bound.0) in
    let size : m ≤ 65536 = omega (arith, within, length-take c.min-size.result l.buf) in
    let room : l.taken + m ≤ 70368744177664 = omega (arith, within, length-take c.min-size.result l.buf) in
    let piece : take m (buf ++ drop c.min-size.result l.buf) ≡ take m buf = take-append-le m buf (drop c.min-size.result l.buf) within in
    let t = l.invariant.taking in
    record {
      came = opening_of (g.P.FeedPort.tells c.args.port.now);
      first = c.args.pass.now;
      room = c.requires.room;
      fed = t.bytes;
      within = omega (arith, t.goes.count, within, length-take c.min-size.result l.buf, length-take m (buf ++ drop c.min-size.result l.buf));
      published = t.published;
      present = rw piece (is_present g.B.BodyReading.meaning g.B.BodyReading.state _ _ _ _ _ l.taken l.walk _ t _ m buf c.in-Ok.ensures.reads c.in-Ok.count-test.1 within size room c.requires.new);
      front = t.front;
    }

pub returns-in-Ok-eq0-clause-taken : goal.returns-in-Ok-eq0-clause-taken
returns-in-Ok-eq0-clause-taken g c =
    let l = c.loop-taken in
    let some : 0 < length c.read.new.buf = omega (arith, length-take c.min-size.result l.buf) in
    ends g.B.BodyReading.meaning g.B.BodyReading.state _ _ _ _ _ l.taken l.walk _ l.invariant.taking _ c.read.new.buf _ (rw c.in-Ok-eq0.field-0-test at c.in-Ok-eq0.ensures.reads) some c.loop-taken-test.true c.cause_of_end.ensures

pub returns-in-Err-clause-taken : goal.returns-in-Err-clause-taken
returns-in-Err-clause-taken g c =
    let l = c.loop-taken in
    faults g.B.BodyReading.meaning g.B.BodyReading.state _ _ _ _ _ l.taken l.walk _ l.invariant.taking _ c.read.new.buf _ _ _ c.in-Err.ensures.reads c.in-Err.ensures.planned c.loop-taken-test.true

pub returns-clause-taken : goal.returns-clause-taken
returns-clause-taken g c =
    let l = c.loop-taken in
    fills g.B.BodyReading.meaning g.B.BodyReading.state _ _ _ _ _ l.taken l.walk _ l.invariant.taking (omega (arith, l.invariant.within))

pub returns-in_err-end-in-Ok-clause-taken : goal.returns-in_err-end-in-Ok-clause-taken
returns-in_err-end-in-Ok-clause-taken g c =
    let l = c.loop-taken in
    let m = c.in-Ok.count in
    let buf = c.read.new.buf in
    let within : m ≤ length buf = omega (arith, c.in-Ok.ensures.bound.0) in
    let size : m ≤ 65536 = omega (arith, within, length-take c.min-size.result l.buf) in
    let room : l.taken + m ≤ 70368744177664 = omega (arith, within, length-take c.min-size.result l.buf) in
    let begun : BreaksConnection g.B.BodyReading.meaning (opening_of (g.P.FeedPort.tells c.args.port.now)) (g.P.FeedPort.last_began c.read.new.self) (g.P.FeedPort.aside c.args.port.now) (g.P.FeedPort.aside c.read.new.self) c.args.pass.now c.publish_piece.new.pass =
    breaks g.B.BodyReading.meaning g.B.BodyReading.state _ _ _ _ _ l.taken l.walk _ l.invariant.taking _ m buf c.in-Ok.ensures.reads c.in-Ok.count-test.1 within size room c.publish_piece.new.pass (g.P.FeedPort.last_began l.port) (g.P.FeedPort.last_began c.read.new.self) c.in-Ok.ensures.began c.in_err-end-in-Ok.ensures.published in
    let moved : BreaksConnection g.B.BodyReading.meaning (opening_of (g.P.FeedPort.tells c.args.port.now)) (g.P.FeedPort.last_began c.publish_piece.new.port) (g.P.FeedPort.aside c.args.port.now) (g.P.FeedPort.aside c.publish_piece.new.port) c.args.pass.now c.publish_piece.new.pass =
    rw (c.in_err-end-in-Ok.ensures.aside, c.in_err-end-in-Ok.ensures.began) begun in
    search rules

pub returns-in-Some-clause-taken : goal.returns-in-Some-clause-taken
returns-in-Some-clause-taken g c =
    let l = c.loop-taken in
    let m = c.in-Ok.count in
    let buf = c.read.new.buf in
    let within : m ≤ length buf = omega (arith, c.in-Ok.ensures.bound.0) in
    let size : m ≤ 65536 = omega (arith, within, length-take c.min-size.result l.buf) in
    let room : l.taken + m ≤ 70368744177664 = omega (arith, within, length-take c.min-size.result l.buf) in
    let piece : take m (buf ++ drop c.min-size.result l.buf) ≡ take m buf = take-append-le m buf (drop c.min-size.result l.buf) within in
    let t = l.invariant.taking in
    let published = rw (piece, c.in-Some.is) at c.in_ok-end-in-Ok.ensures.published in
    rw c.in_ok-end-in-Ok.ensures.aside (ends_early g.B.BodyReading.meaning g.B.BodyReading.state _ _ _ _ _ l.taken l.walk _ t _ m buf c.in-Ok.ensures.reads c.in-Ok.count-test.1 within size room c.publish_piece.new.pass c.publish_piece.new.walk c.in-Some.cause (published _ c.args.pass.now t.bytes t.published))

pub loop-taken-preserved : goal.loop-taken-preserved
loop-taken-preserved g c =
    let l = c.loop-taken in
    let m = c.in-Ok.count in
    let buf = c.read.new.buf in
    let within : m ≤ length buf = omega (arith, c.in-Ok.ensures.bound.0) in
    let size : m ≤ 65536 = omega (arith, within, length-take c.min-size.result l.buf) in
    let room : l.taken + m ≤ 70368744177664 = omega (arith, within, length-take c.min-size.result l.buf) in
    let piece : take m (buf ++ drop c.min-size.result l.buf) ≡ take m buf = take-append-le m buf (drop c.min-size.result l.buf) within in
    let t = l.invariant.taking in
    let published = rw (piece, c.in_default.is) at c.in_ok-end-in-Ok.ensures.published in
    let fronts = rw (piece, c.in_default.is) at c.in_ok-end-in-Ok.ensures.fronts in
    record {
      taking = rw c.in_ok-end-in-Ok.ensures.aside (taking_more g.B.BodyReading.meaning g.B.BodyReading.state _ _ _ _ _ l.taken l.walk _ t _ m buf c.in-Ok.ensures.reads c.in-Ok.count-test.1 within size room c.publish_piece.new.pass c.publish_piece.new.walk _ (published _ c.args.pass.now t.bytes t.published) (fronts _ c.args.pass.now t.bytes t.published t.front));
      within = room;
      room = omega (arith, length-append buf (drop c.min-size.result l.buf), length-take c.min-size.result l.buf, length-drop c.min-size.result l.buf, l.invariant.room);
      causes = c.in_ok-end-in-Ok.ensures.causes ∙ c.in-Ok.ensures.causes ∙ l.invariant.causes;
      tells = c.in_ok-end-in-Ok.ensures.tells ∙ c.in-Ok.ensures.tells ∙ l.invariant.tells;
    }

pub slice_bounds-buf-end-in-Ok : goal.slice_bounds-buf-end-in-Ok
slice_bounds-buf-end-in-Ok g c =
    let within : c.in-Ok.count ≤ length c.read.new.buf = omega (arith, c.in-Ok.ensures.bound.0) in
    omega (arith, within, length-append c.read.new.buf (drop c.min-size.result c.loop-taken.buf))

pub slice_bounds-piece-end : goal.slice_bounds-piece-end
slice_bounds-piece-end g c =
    let buf = c.read.new.buf in
    let rest = drop c.min-size.result c.loop-taken.buf in
    let within : c.in-Ok.count ≤ length buf = omega (arith, c.in-Ok.ensures.bound.0) in
    omega (arith, within, length-append buf rest, length-take c.in-Ok.count (buf ++ rest))
