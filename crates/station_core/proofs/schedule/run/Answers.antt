use Rattle.std.proofs.Common.{Err, arith, sym, ◌∙◌}
use Rattle.station_core.specs.Schedule.{start_of}
use Rattle.station_core.proofs.Running.{breaks, ran, running_are_few, running_on, running_room, stepped_kept}
use Rattle.station_core.proofs.schedule.run.Goals as goal

pub step-requires : goal.step-requires
step-requires g c =
    let l = c.loop-event in
    let m = l.machine in
    running_room g.O.Sink.faults g.O.Sink.told g.O.Sink.aside g.B.BodyReading.meaning g.B.BodyReading.state c.args.events.now c.args.lanes c.args.askers l.event-index c.args.out.now l.out m.lanes.items m.shown.items m.seen.items m.finished c.requires.begun l.invariant

pub returns-in-Err-step-clause-leaves : goal.returns-in-Err-step-clause-leaves
returns-in-Err-step-clause-leaves g c =
    let l = c.loop-event in
    let m = l.machine in
    let n = c.step.new.self in
    let r = l.invariant in
    let few = running_are_few g.O.Sink.faults g.O.Sink.told g.O.Sink.aside g.B.BodyReading.meaning g.B.BodyReading.state c.args.events.now c.args.lanes c.args.askers l.event-index c.args.out.now l.out m.lanes.items m.shown.items m.seen.items m.finished c.requires.begun r in
    breaks g.O.Sink.faults g.O.Sink.told g.O.Sink.aside g.B.BodyReading.meaning g.B.BodyReading.state c.args.events.now (start_of c.args.lanes c.args.askers) c.args.out.now l.event-index l.out m.lanes.items m.shown.items m.seen.items m.finished r
    (omega (arith, c.loop-event-test.true)) c.event-item.result (sym c.event-item.is) c.step.new.out n.lanes.items n.shown.items n.seen.items n.finished c.in-Err-step.fault (c.in-Err-step.ensures r.now r.stands few)

pub returns-in-Err-step-clause-kept : goal.returns-in-Err-step-clause-kept
returns-in-Err-step-clause-kept g c =
    let l = c.loop-event in
    let m = l.machine in
    let n = c.step.new.self in
    let r = l.invariant in
    let few = running_are_few g.O.Sink.faults g.O.Sink.told g.O.Sink.aside g.B.BodyReading.meaning g.B.BodyReading.state c.args.events.now c.args.lanes c.args.askers l.event-index c.args.out.now l.out m.lanes.items m.shown.items m.seen.items m.finished c.requires.begun r in
    stepped_kept g.O.Sink.faults g.O.Sink.told g.O.Sink.aside g.B.BodyReading.meaning g.B.BodyReading.state c.event-item.result r.now l.out c.step.new.out n.lanes.items n.shown.items n.seen.items n.finished (Err c.in-Err-step.fault) (c.in-Err-step.ensures r.now r.stands few) ∙ r.written.kept

pub loop-event-preserved : goal.loop-event-preserved
loop-event-preserved g c =
    let l = c.loop-event in
    let m = l.machine in
    let n = c.step.new.self in
    let r = l.invariant in
    let few = running_are_few g.O.Sink.faults g.O.Sink.told g.O.Sink.aside g.B.BodyReading.meaning g.B.BodyReading.state c.args.events.now c.args.lanes c.args.askers l.event-index c.args.out.now l.out m.lanes.items m.shown.items m.seen.items m.finished c.requires.begun r in
    running_on g.O.Sink.faults g.O.Sink.told g.O.Sink.aside g.B.BodyReading.meaning g.B.BodyReading.state c.args.events.now (start_of c.args.lanes c.args.askers) c.args.out.now l.event-index l.out m.lanes.items m.shown.items m.seen.items m.finished r
    (omega (arith, c.loop-event-test.true)) c.event-item.result (sym c.event-item.is) c.step.new.out n.lanes.items n.shown.items n.seen.items n.finished c.in_default.field-0 (c.in_default.ensures r.now r.stands few)

pub revision-requires : goal.revision-requires
revision-requires g c =
    let l = c.loop-event in
    let m = l.machine in
    running_room g.O.Sink.faults g.O.Sink.told g.O.Sink.aside g.B.BodyReading.meaning g.B.BodyReading.state c.args.events.now c.args.lanes c.args.askers l.event-index c.args.out.now l.out m.lanes.items m.shown.items m.seen.items m.finished c.requires.begun l.invariant

pub returns-clause-leaves : goal.returns-clause-leaves
returns-clause-leaves g c =
    let l = c.loop-event in
    let m = l.machine in
    let r = l.invariant in
    let few = running_are_few g.O.Sink.faults g.O.Sink.told g.O.Sink.aside g.B.BodyReading.meaning g.B.BodyReading.state c.args.events.now c.args.lanes c.args.askers l.event-index c.args.out.now l.out m.lanes.items m.shown.items m.seen.items m.finished c.requires.begun r in
    ran g.O.Sink.faults g.O.Sink.told g.O.Sink.aside g.B.BodyReading.meaning g.B.BodyReading.state c.args.events.now (start_of c.args.lanes c.args.askers) c.args.out.now l.event-index c.revision.result l.out m.lanes.items m.shown.items m.seen.items m.finished
    (omega (arith, c.loop-event-test.false)) r (c.revision.ensures r.now r.stands few)
