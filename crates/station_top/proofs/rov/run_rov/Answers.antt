use Rattle.std.proofs.Common.{◌∙◌, ℕ, Err, refl, ap, subst}
use Rattle.bmp_specs.specs.LenientBody.{meaning_of}
use Rattle.rov_reply.specs.RovLines.{IsRovReply}
use Rattle.station_doors.specs.Doors.{one_more}
use Rattle.station_top.specs.Station.{Concludes, file_starved, judged}
use Rattle.station_top.proofs.Judging.{concludes_refused}
use Rattle.station_top.proofs.rov.run_rov.Goals as goal

pub returns-in-Err-NoMemory-clause-concludes : goal.returns-in-Err-NoMemory-clause-concludes
returns-in-Err-NoMemory-clause-concludes g c = file_starved (Err c.in-Err-NoMemory.field-0) c.in-Err-NoMemory.ensures.told c.file.ensures.counted.calls refl refl

pub returns-in-Err-clause-concludes : goal.returns-in-Err-clause-concludes
returns-in-Err-clause-concludes g c =
    concludes_refused (meaning_of c.args.lenient) c.args.path.now c.args.prefix (g.Y.Yard.seen c.args.yard.now).told (g.Y.Yard.seen c.file.new.self).told (g.Y.Yard.seen c.args.yard.now).calls (g.Y.Yard.seen c.file.new.self).calls (g.O.Sink.told c.args.out.now) (g.O.Sink.told c.refuse.new.out) c.refuse.result
    c.in-Ok.file c.in-Err.fault c.in-Ok.ensures.told c.in-Err.ensures.fault c.file.ensures.counted.calls c.refuse.ensures.told

pub returns-clause-concludes : goal.returns-clause-concludes
returns-clause-concludes g c =
    judged c.in-Ok.file c.in-Ok-read_vrps.vrps (g.Y.Yard.seen c.file.new.self).told c.in-Ok.ensures.told c.in-Ok-read_vrps.ensures.are (c.run_by.ensures.calls ∙ ap one_more c.file.ensures.counted.calls)
    (subst (λ (n : ℕ). Concludes (meaning_of c.args.lenient) (IsRovReply c.in-Ok-read_vrps.vrps c.args.prefix) (g.Y.Yard.seen c.file.new.self).told (g.Y.Yard.seen c.run_by.new.yard).told n (g.O.Sink.told c.args.out.now) (g.O.Sink.told c.run_by.new.out) c.run_by.result) c.file.ensures.counted.calls c.run_by.ensures.concludes)
