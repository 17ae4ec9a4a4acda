use Rattle.std.proofs.Common.{◌≡◌, [], Err, map, refl, inl, ap}
use Rattle.std.specs.String.{string_bytes}
use Rattle.std.proofs.lemmas.Result.{IfErr-weaker, IfOk-weaker}
use Rattle.bmp_specs.specs.Lines.{usage_line}
use Rattle.wire_io.proofs.Joins.{appends_none}
use Rattle.station_top.specs.Station.{usage, unread, replied_to}
use Rattle.station_top.specs.declared.status.Status.TheVariants.{Usage, NoMemory}
use Rattle.station_top.proofs.HandedBack.{waits_of}
use Rattle.station_top.proofs.Concluding.{answers_called, is_written}
use Rattle.station_top.proofs.alone.answer_alone.Goals as goal

pub returns-in-Ok-clause-answers : goal.returns-in-Ok-clause-answers
returns-in-Ok-clause-answers g c =
    let after = c.run_call.new in
    IfOk-weaker c.run_call.result _ _ (λ status concludes. answers_called (λ meaning serve outcome. ⊥) c.in-Ok.call (map string_bytes c.args.words.now) (g.Y.Yard.seen c.args.yard.now).told (g.Y.Yard.seen after.yard).told (g.Y.Yard.seen c.args.yard.now).calls (g.Y.Yard.seen after.yard).calls (g.O.Sink.told c.args.out.now) (g.O.Sink.told after.out) status
    c.in-Ok.ensures.ok concludes) c.run_call.ensures.concludes

pub returns-in-Ok-clause-waits : goal.returns-in-Ok-clause-waits
returns-in-Ok-clause-waits g c = IfErr-weaker c.run_call.result _ _ (λ w is. waits_of w c.in-Ok.call (map string_bytes c.args.words.now) is c.in-Ok.ensures.ok) c.run_call.ensures.waits

pub returns-in-Err-Usage-clause-answers : goal.returns-in-Err-Usage-clause-answers
returns-in-Err-Usage-clause-answers g c =
    let line : c.as_bytes.result.now ≡ usage_line = c.as_bytes.ensures.value in
    replied_to Usage usage_line (usage (c.in-Err-Usage.ensures.usage (ap Err c.in-Err-Usage.field-0-is)) refl)
    (is_written c.args.out.now c.write_all.new.out usage_line c.write_all.result Usage c.unless_failed.result (rw line at c.write_all.ensures) c.unless_failed.ensures.fine c.unless_failed.ensures.failed)

pub returns-in-Err-NoMemory-clause-answers : goal.returns-in-Err-NoMemory-clause-answers
returns-in-Err-NoMemory-clause-answers g c = replied_to NoMemory [] (unread (c.in-Err-NoMemory.ensures.memory (ap Err c.in-Err-NoMemory.field-0-is)) refl) (inl (refl, appends_none (g.O.Sink.told c.args.out.now)))
