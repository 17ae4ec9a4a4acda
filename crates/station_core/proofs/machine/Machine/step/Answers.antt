use Rattle.std.proofs.Common.{◌≡◌, ◌++◌, ℕ, Bool, List, arith, drop, false, length, subst, take, true}
use Rattle.std.specs.Prelude.{OnOk}
use Rattle.std.proofs.lemmas.List.{take_at}
use Rattle.query_lang.specs.Asks.{ask_value}
use Rattle.router_tables.specs.Tables.{TablesValue}
use Rattle.station_core.specs.declared.lane.Lane.{Lane}
use Rattle.station_core.specs.Machine.{Begins, ComesTo, with_end, with_piece}
use Rattle.station_core.specs.Standing.{AsksOn, MovesLane, ShowsLane, Stands, TellsOn}
use Rattle.station_core.proofs.Starting.{answered, begun, ended, finished_now, over, published, room_counts, room_few, room_shown, room_some, shown_due, sound_at, taken, told_of}
use Rattle.station_core.proofs.machine.Machine.step.Goals as goal

-- what is written back to a vector is all of it
whole : {A : Type 0} (new items : List A) (len : ℕ) → length new ≡ len → take len (new ++ drop (length new) items) ≡ new
whole new items len size = take_at new (drop (length new) items) len size

pub take_on-requires : goal.take_on-requires
take_on-requires g c =
    let m = c.args.self.now in
    rw c.deref_mut-in-Take.ensures.value (sound_at g.B.BodyReading.meaning g.B.BodyReading.state m.lanes.items m.shown.items m.seen.items m.finished c.requires c.in-Take.lane)

pub publish_on-requires-clause-count : goal.publish_on-requires-clause-count
publish_on-requires-clause-count g c =
    let m = c.args.self.now in
    rw (c.deref.ensures.value, c.deref_mut-in-Publish.ensures.value) (room_shown g.B.BodyReading.meaning g.B.BodyReading.state m.lanes.items m.shown.items m.seen.items m.finished c.requires)

pub publish_on-requires-clause-due : goal.publish_on-requires-clause-due
publish_on-requires-clause-due g c =
    let m = c.args.self.now in
    rw (c.deref.ensures.value, c.deref_mut-in-Publish.ensures.value) (shown_due g.B.BodyReading.meaning g.B.BodyReading.state m.lanes.items m.shown.items m.seen.items m.finished c.requires c.in-Publish.lane)

pub tell_on-requires-clause-lanes : goal.tell_on-requires-clause-lanes
tell_on-requires-clause-lanes g c =
    let m = c.args.self.now in
    rw c.deref-in-Tell.ensures.value (room_few g.B.BodyReading.meaning g.B.BodyReading.state m.lanes.items m.shown.items m.seen.items m.finished c.requires)

pub tell_on-requires-clause-counts : goal.tell_on-requires-clause-counts
tell_on-requires-clause-counts g c =
    let m = c.args.self.now in
    rw c.deref-in-Tell.ensures.value (room_counts g.B.BodyReading.meaning g.B.BodyReading.state m.lanes.items m.shown.items m.seen.items m.finished c.requires)

pub ask_on-requires-clause-some : goal.ask_on-requires-clause-some
ask_on-requires-clause-some g c =
    let m = c.args.self.now in
    rw c.deref-in-Ask.ensures.value (room_some g.B.BodyReading.meaning g.B.BodyReading.state m.lanes.items m.shown.items m.seen.items m.finished c.requires)

pub ask_on-requires-clause-lanes : goal.ask_on-requires-clause-lanes
ask_on-requires-clause-lanes g c =
    let m = c.args.self.now in
    rw c.deref-in-Ask.ensures.value (room_few g.B.BodyReading.meaning g.B.BodyReading.state m.lanes.items m.shown.items m.seen.items m.finished c.requires)

pub ask_on-requires-clause-counts : goal.ask_on-requires-clause-counts
ask_on-requires-clause-counts g c =
    let m = c.args.self.now in
    rw c.deref-in-Ask.ensures.value (room_counts g.B.BodyReading.meaning g.B.BodyReading.state m.lanes.items m.shown.items m.seen.items m.finished c.requires)

pub returns-then-self : goal.returns-then-self
returns-then-self g c v s few =
    let m = c.args.self.now in
    let meaning = g.B.BodyReading.meaning in
    let state = g.B.BodyReading.state in
    let done : Stands meaning state m.lanes.items m.shown.items m.seen.items true v = subst (λ (b : Bool). Stands meaning state m.lanes.items m.shown.items m.seen.items b v) c.if-self.true s in
    rw c.if-self.true (over meaning state g.O.Sink.faults g.O.Sink.told g.O.Sink.aside m.lanes.items m.shown.items m.seen.items v done c.args.event.now c.args.out.now tt)

pub returns-in-Begin : goal.returns-in-Begin
returns-in-Begin g c v s few =
    let m = c.args.self.now in
    let meaning = g.B.BodyReading.meaning in
    let state = g.B.BodyReading.state in
    let new = c.begin_on.new.lanes in
    let all = whole new m.lanes.items m.lanes.len (omega (arith, c.begin_on.auto.lanes, c.deref_mut.ensures.len)) in
    let going : Stands meaning state m.lanes.items m.shown.items m.seen.items false v = subst (λ (b : Bool). Stands meaning state m.lanes.items m.shown.items m.seen.items b v) c.if-self.false s in
    let moves : OnOk c.begin_on.result (MovesLane meaning state (Begins meaning) c.in-Begin.lane m.lanes.items new) =
    subst (λ (ls : List (Lane g.row.B.Denot)). OnOk c.begin_on.result (MovesLane meaning state (Begins meaning) c.in-Begin.lane ls new)) c.deref_mut.ensures.value c.begin_on.ensures in
    rw (all, c.in-Begin.is, c.if-self.false, c.as_schedule_fault.ensures)
    (begun meaning state g.O.Sink.faults g.O.Sink.told g.O.Sink.aside m.lanes.items m.shown.items m.seen.items v going c.args.out.now c.in-Begin.lane new c.begin_on.result moves)

pub returns-in-Take : goal.returns-in-Take
returns-in-Take g c v s few =
    let m = c.args.self.now in
    let meaning = g.B.BodyReading.meaning in
    let state = g.B.BodyReading.state in
    let new = c.take_on.new.lanes in
    let all = whole new m.lanes.items m.lanes.len (omega (arith, c.take_on.auto.lanes, c.deref_mut-in-Take.ensures.len)) in
    let going : Stands meaning state m.lanes.items m.shown.items m.seen.items false v = subst (λ (b : Bool). Stands meaning state m.lanes.items m.shown.items m.seen.items b v) c.if-self.false s in
    let moves : OnOk c.take_on.result (MovesLane meaning state (ComesTo meaning (with_piece c.in-Take.piece)) c.in-Take.lane m.lanes.items new) =
    subst (λ (ls : List (Lane g.row.B.Denot)). OnOk c.take_on.result (MovesLane meaning state (ComesTo meaning (with_piece c.in-Take.piece)) c.in-Take.lane ls new)) c.deref_mut-in-Take.ensures.value (rw c.as_slice.ensures at c.take_on.ensures) in
    rw (all, c.in-Take.is, c.if-self.false, c.as_schedule_fault-in-Take.ensures)
    (taken meaning state g.O.Sink.faults g.O.Sink.told g.O.Sink.aside m.lanes.items m.shown.items m.seen.items v going c.args.out.now c.in-Take.lane c.in-Take.piece new c.take_on.result moves)

pub returns-in-End : goal.returns-in-End
returns-in-End g c v s few =
    let m = c.args.self.now in
    let meaning = g.B.BodyReading.meaning in
    let state = g.B.BodyReading.state in
    let new = c.end_on.new.lanes in
    let all = whole new m.lanes.items m.lanes.len (omega (arith, c.end_on.auto.lanes, c.deref_mut-in-End.ensures.len)) in
    let going : Stands meaning state m.lanes.items m.shown.items m.seen.items false v = subst (λ (b : Bool). Stands meaning state m.lanes.items m.shown.items m.seen.items b v) c.if-self.false s in
    let moves : OnOk c.end_on.result (MovesLane meaning state (ComesTo meaning (with_end c.in-End.failed)) c.in-End.lane m.lanes.items new) =
    subst (λ (ls : List (Lane g.row.B.Denot)). OnOk c.end_on.result (MovesLane meaning state (ComesTo meaning (with_end c.in-End.failed)) c.in-End.lane ls new)) c.deref_mut-in-End.ensures.value c.end_on.ensures in
    rw (all, c.in-End.is, c.if-self.false, c.as_schedule_fault-in-End.ensures)
    (ended meaning state g.O.Sink.faults g.O.Sink.told g.O.Sink.aside m.lanes.items m.shown.items m.seen.items v going c.args.out.now c.in-End.lane c.in-End.failed new c.end_on.result moves)

pub returns-in-Publish : goal.returns-in-Publish
returns-in-Publish g c v s few =
    let m = c.args.self.now in
    let meaning = g.B.BodyReading.meaning in
    let state = g.B.BodyReading.state in
    let new = c.publish_on.new.shown in
    let all = whole new m.shown.items m.shown.len (omega (arith, c.publish_on.auto.shown, c.deref_mut-in-Publish.ensures.len)) in
    let going : Stands meaning state m.lanes.items m.shown.items m.seen.items false v = subst (λ (b : Bool). Stands meaning state m.lanes.items m.shown.items m.seen.items b v) c.if-self.false s in
    let shows : OnOk c.publish_on.result (ShowsLane m.lanes.items c.in-Publish.lane m.shown.items new) =
    subst (λ (xs : List (TablesValue × ℕ)). OnOk c.publish_on.result (ShowsLane m.lanes.items c.in-Publish.lane xs new)) c.deref_mut-in-Publish.ensures.value
    (subst (λ (ls : List (Lane g.row.B.Denot)). OnOk c.publish_on.result (ShowsLane ls c.in-Publish.lane c.deref_mut-in-Publish.result.now new)) c.deref.ensures.value c.publish_on.ensures) in
    rw (all, c.in-Publish.is, c.if-self.false, c.as_schedule_fault-in-Publish.ensures)
    (published meaning state g.O.Sink.faults g.O.Sink.told g.O.Sink.aside m.lanes.items m.shown.items m.seen.items v going c.args.out.now c.in-Publish.lane new c.publish_on.result shows)

pub returns-in-Tell : goal.returns-in-Tell
returns-in-Tell g c v s few =
    let m = c.args.self.now in
    let meaning = g.B.BodyReading.meaning in
    let state = g.B.BodyReading.state in
    let new = c.tell_on.new.seen in
    let all = whole new m.seen.items m.seen.len (omega (arith, c.tell_on.auto.seen, c.deref_mut-in-Tell.ensures.len)) in
    let going : Stands meaning state m.lanes.items m.shown.items m.seen.items false v = subst (λ (b : Bool). Stands meaning state m.lanes.items m.shown.items m.seen.items b v) c.if-self.false s in
    let tells : TellsOn m.shown.items c.in-Tell.asker c.in-Tell.rev m.seen.items new =
    subst (λ (xs : List ℕ). TellsOn m.shown.items c.in-Tell.asker c.in-Tell.rev xs new) c.deref_mut-in-Tell.ensures.value
    (subst (λ (xs : List (TablesValue × ℕ)). TellsOn xs c.in-Tell.asker c.in-Tell.rev c.deref_mut-in-Tell.result.now new) c.deref-in-Tell.ensures.value c.tell_on.ensures) in
    rw (all, c.in-Tell.is, c.if-self.false)
    (told_of meaning state g.O.Sink.faults g.O.Sink.told g.O.Sink.aside m.lanes.items m.shown.items m.seen.items v going c.args.out.now few c.in-Tell.asker c.in-Tell.rev new tells)

pub returns-in-Ask : goal.returns-in-Ask
returns-in-Ask g c v s few =
    let m = c.args.self.now in
    let meaning = g.B.BodyReading.meaning in
    let state = g.B.BodyReading.state in
    let new = c.ask_on.new.seen in
    let all = whole new m.seen.items m.seen.len (omega (arith, c.ask_on.auto.seen, c.deref_mut-in-Ask.ensures.len)) in
    let going : Stands meaning state m.lanes.items m.shown.items m.seen.items false v = subst (λ (b : Bool). Stands meaning state m.lanes.items m.shown.items m.seen.items b v) c.if-self.false s in
    let ask = ask_value c.in-Ask.ask in
    let asks : AsksOn g.O.Sink.faults g.O.Sink.told g.O.Sink.aside m.shown.items c.in-Ask.asker ask m.seen.items new c.args.out.now c.ask_on.new.out c.ask_on.result =
    subst (λ (xs : List ℕ). AsksOn g.O.Sink.faults g.O.Sink.told g.O.Sink.aside m.shown.items c.in-Ask.asker ask xs new c.args.out.now c.ask_on.new.out c.ask_on.result) c.deref_mut-in-Ask.ensures.value
    (subst (λ (xs : List (TablesValue × ℕ)). AsksOn g.O.Sink.faults g.O.Sink.told g.O.Sink.aside xs c.in-Ask.asker ask c.deref_mut-in-Ask.result.now new c.args.out.now c.ask_on.new.out c.ask_on.result) c.deref-in-Ask.ensures.value c.ask_on.ensures) in
    rw (all, c.in-Ask.is, c.if-self.false)
    (answered meaning state g.O.Sink.faults g.O.Sink.told g.O.Sink.aside m.lanes.items m.shown.items m.seen.items v going c.args.out.now few c.in-Ask.asker c.in-Ask.ask new c.ask_on.new.out c.ask_on.result asks)

pub returns-in-Finish : goal.returns-in-Finish
returns-in-Finish g c v s few =
    let m = c.args.self.now in
    let meaning = g.B.BodyReading.meaning in
    let state = g.B.BodyReading.state in
    let going : Stands meaning state m.lanes.items m.shown.items m.seen.items false v = subst (λ (b : Bool). Stands meaning state m.lanes.items m.shown.items m.seen.items b v) c.if-self.false s in
    rw c.in-Finish.is (finished_now meaning state g.O.Sink.faults g.O.Sink.told g.O.Sink.aside m.lanes.items m.shown.items m.seen.items v going c.args.out.now)
