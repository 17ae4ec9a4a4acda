use Rattle.std.proofs.Common.{◌≡◌, ◌∙◌, ◌<◌, ◌≤◌, ◌+◌, ◌++◌, refl, ap, length, take, drop, length-append, length-drop, length-take, arith}
use Rattle.std.proofs.lemmas.List.{take-append-le}
use Rattle.bmp_specs.specs.declared.causes.Cause.{Cause}
use Rattle.station_top.specs.declared.take.Taken.{Taken}
use Rattle.station_top.proofs.Taking.{gave_on_none, gave_on_more, taking_none, taking_more, takes_end, takes_early, takes_fault, takes_full, drawn_fed, breaks, on_error}
use Rattle.station_top.proofs.take.take_bytes.Goals as goal

pub loop-taken-init : goal.loop-taken-init
loop-taken-init g c = record {
  taking = taking_none g.R.BodyReading.meaning g.R.BodyReading.state (g.A.Account.stands c.args.account.now) (g.P.Port.aside c.args.port.now) (g.P.Port.calls c.args.port.now) c.new-walk.result c.requires.new c.requires.opened c.new-walk.ensures.run c.new-walk.ensures.start;
  went = gave_on_none (g.P.Port.went c.args.port.now);
  stays = refl;
  within = omega arith;
  room = refl;
}

pub returns-in-Ok-eq0-clause-takes : goal.returns-in-Ok-eq0-clause-takes
returns-in-Ok-eq0-clause-takes g c =
    let l = c.loop-taken in
    let some : 0 < length c.read.new.buf = omega (arith, length-take c.min-size.result l.buf) in
    takes_end _ g.R.BodyReading.meaning g.R.BodyReading.state g.met.R.BodyReading.gives_messages (g.A.Account.stands l.account) _ _ _ _ l.taken l.walk l.revision l.invariant.taking (g.P.Port.went c.args.port.now) (g.P.Port.went l.port) (g.P.Port.went c.read.new.self) _ _ c.read.new.buf _ l.invariant.went (rw c.in-Ok-eq0.field-0-test at c.in-Ok-eq0.ensures.went) (rw c.in-Ok-eq0.field-0-test at c.in-Ok-eq0.ensures.reads) (rw c.in-Ok-eq0.field-0-test at c.in-Ok-eq0.ensures.planned) some c.loop-taken-test.true
    (ap (λ (k : Cause). let t : Taken = record { cause = k; revision = l.revision; bytes = l.taken } in t) c.at_end.ensures)

pub returns-in-Err-clause-takes : goal.returns-in-Err-clause-takes
returns-in-Err-clause-takes g c =
    let l = c.loop-taken in
    takes_fault _ g.R.BodyReading.meaning g.R.BodyReading.state g.met.R.BodyReading.gives_messages (g.A.Account.stands l.account) _ _ _ _ l.taken l.walk l.revision l.invariant.taking (g.P.Port.went c.args.port.now) (g.P.Port.went l.port) (g.P.Port.went c.read.new.self) _ _ c.read.new.buf _ _ l.invariant.went c.in-Err.ensures.went c.in-Err.ensures.reads c.in-Err.ensures.planned c.loop-taken-test.true refl

pub returns-in-Some-clause-takes : goal.returns-in-Some-clause-takes
returns-in-Some-clause-takes g c =
    let l = c.loop-taken in
    let m = c.in-Ok.count in
    let buf = c.read.new.buf in
    let within : m ≤ length buf = omega (arith, c.in-Ok.ensures.bound.0) in
    let size : m ≤ 65536 = omega (arith, within, length-take c.min-size.result l.buf) in
    let room : l.taken + m ≤ 70368744177664 = omega (arith, within, length-take c.min-size.result l.buf) in
    let piece : take m (buf ++ drop c.min-size.result l.buf) ≡ take m buf = take-append-le m buf (drop c.min-size.result l.buf) within in
    let fed = rw piece at c.in_ok-feed-in-Ok.ensures.run in
    let drawn = drawn_fed _ g.R.BodyReading.meaning g.R.BodyReading.state g.met.R.BodyReading.gives_messages (g.A.Account.stands l.account) _ _ _ _ l.taken l.walk l.revision l.invariant.taking (take m buf) c.feed.new.self fed in
    let draws = rw c.in-Some.is at c.in_ok-cause-in-Ok.ensures.draws in
    takes_early _ g.R.BodyReading.meaning g.R.BodyReading.state g.met.R.BodyReading.gives_messages (g.A.Account.stands l.account) _ _ _ _ l.taken l.walk l.revision l.invariant.taking (g.P.Port.went c.args.port.now) (g.P.Port.went l.port) (g.P.Port.went c.read.new.self) (g.A.Account.stands c.drain.new.account) _ _ m buf c.in-Some.cause c.drain.new.revision _ l.invariant.went c.in-Ok.ensures.went c.in-Ok.ensures.reads c.in-Ok.ensures.planned c.in-Ok.count-test.1 within room size
    (draws _ drawn) refl

pub loop-taken-preserved : goal.loop-taken-preserved
loop-taken-preserved g c =
    let l = c.loop-taken in
    let m = c.in-Ok.count in
    let buf = c.read.new.buf in
    let within : m ≤ length buf = omega (arith, c.in-Ok.ensures.bound.0) in
    let size : m ≤ 65536 = omega (arith, within, length-take c.min-size.result l.buf) in
    let room : l.taken + m ≤ 70368744177664 = omega (arith, within, length-take c.min-size.result l.buf) in
    let piece : take m (buf ++ drop c.min-size.result l.buf) ≡ take m buf = take-append-le m buf (drop c.min-size.result l.buf) within in
    let fed = rw piece at c.in_ok-feed-in-Ok.ensures.run in
    let drawn = drawn_fed _ g.R.BodyReading.meaning g.R.BodyReading.state g.met.R.BodyReading.gives_messages (g.A.Account.stands l.account) _ _ _ _ l.taken l.walk l.revision l.invariant.taking (take m buf) c.feed.new.self fed in
    let draws = rw c.in_default.is at c.in_ok-cause-in-Ok.ensures.draws in
    record {
      taking = taking_more _ g.R.BodyReading.meaning g.R.BodyReading.state g.met.R.BodyReading.gives_messages (g.A.Account.stands l.account) _ _ _ _ l.taken l.walk l.revision l.invariant.taking (g.A.Account.stands c.drain.new.account) _ _ m buf c.drain.new.walk c.drain.new.revision c.in-Ok.ensures.reads c.in-Ok.ensures.planned c.in-Ok.count-test.1 within room size
          (draws _ drawn);
      went = gave_on_more (g.P.Port.went c.args.port.now) (g.P.Port.went l.port) (g.P.Port.went c.read.new.self) m l.invariant.went c.in-Ok.ensures.went c.in-Ok.count-test.1;
      stays = c.read.ensures.stays ∙ l.invariant.stays;
      within = room;
      room = omega (arith, length-append buf (drop c.min-size.result l.buf), length-take c.min-size.result l.buf, length-drop c.min-size.result l.buf, l.invariant.room);
    }

pub returns-clause-takes : goal.returns-clause-takes
returns-clause-takes g c =
    let l = c.loop-taken in
    let full : l.taken ≡ 70368744177664 = omega (arith, l.invariant.within) in
    takes_full _ g.R.BodyReading.meaning g.R.BodyReading.state g.met.R.BodyReading.gives_messages (g.A.Account.stands l.account) _ _ _ _ l.taken l.walk l.revision l.invariant.taking (g.P.Port.went c.args.port.now) (g.P.Port.went l.port) _ l.invariant.went full refl

pub returns-in_err-feed-in-Ok-clause-breaks : goal.returns-in_err-feed-in-Ok-clause-breaks
returns-in_err-feed-in-Ok-clause-breaks g c =
    let l = c.loop-taken in
    let m = c.in-Ok.count in
    let buf = c.read.new.buf in
    let within : m ≤ length buf = omega (arith, c.in-Ok.ensures.bound.0) in
    let size : m ≤ 65536 = omega (arith, within, length-take c.min-size.result l.buf) in
    let room : l.taken + m ≤ 70368744177664 = omega (arith, within, length-take c.min-size.result l.buf) in
    on_error _ (breaks _ g.R.BodyReading.meaning g.R.BodyReading.state g.met.R.BodyReading.gives_messages (g.A.Account.stands l.account) _ _ _ _ l.taken l.walk l.revision l.invariant.taking (g.P.Port.went c.args.port.now) (g.P.Port.went l.port) (g.P.Port.went c.read.new.self) _ _ m buf l.invariant.went c.in-Ok.ensures.went c.in-Ok.ensures.reads c.in-Ok.ensures.planned c.in-Ok.count-test.1 within room size)

pub returns-in_err-cause-in-Ok-clause-breaks : goal.returns-in_err-cause-in-Ok-clause-breaks
returns-in_err-cause-in-Ok-clause-breaks g c =
    let l = c.loop-taken in
    let m = c.in-Ok.count in
    let buf = c.read.new.buf in
    let within : m ≤ length buf = omega (arith, c.in-Ok.ensures.bound.0) in
    let size : m ≤ 65536 = omega (arith, within, length-take c.min-size.result l.buf) in
    let room : l.taken + m ≤ 70368744177664 = omega (arith, within, length-take c.min-size.result l.buf) in
    on_error _ (breaks _ g.R.BodyReading.meaning g.R.BodyReading.state g.met.R.BodyReading.gives_messages (g.A.Account.stands l.account) _ _ _ _ l.taken l.walk l.revision l.invariant.taking (g.P.Port.went c.args.port.now) (g.P.Port.went l.port) (g.P.Port.went c.read.new.self) _ _ m buf l.invariant.went c.in-Ok.ensures.went c.in-Ok.ensures.reads c.in-Ok.ensures.planned c.in-Ok.count-test.1 within room size)
