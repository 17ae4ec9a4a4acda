use Rattle.std.proofs.Common.{◌-◌, drop, length, refl, ap, arith, length-take}
use Rattle.feed_archive.proofs.Reading.{part_before, covered, takes_record, takes_none, fits_end}
use Rattle.feed_archive.proofs.scanning.take_next.Goals as goal

pub returns-in_default-found : goal.returns-in_default-found
returns-in_default-found g c =
    let w = c.reach.new.self in
    let e = c.in-Ok.ensures in
    let size = length-take c.min-count.result (drop (c.args.place - w.place) w.bytes) in
    record {
      fits = fits_end c.args.end c.args.place c.lend-bytes.result.now c.find-found.result c.requires.before (omega (arith, ap length c.lend-bytes.ensures, size, c.min-count.ensures)) c.find-found.ensures;
      told = λ t.
          takes_none _ c.args.end c.args.place c.min-count.result w c.lend-bytes.result.now (c.requires.within t) c.requires.before c.min-count.ensures (part_before _ _ w (e.rests t) (e.part t)) (covered w _ _ _ _ c.if-not-is_whole.false refl e.covers) c.lend-bytes.ensures
          c.find-found.result _ c.in_default-found.not-Record c.find-found.ensures;
      part = e.part;
      planned = λ t. tt;
      rests = e.rests;
      plain = tt;
      cause = e.cause.fine;
    }

pub returns-in-Ok-extend-clause-told : goal.returns-in-Ok-extend-clause-told
returns-in-Ok-extend-clause-told g c = λ t.
    let w = c.reach.new.self in
    let e = c.in-Ok.ensures in
    takes_record _ c.args.end c.args.place c.min-count.result w c.lend-bytes.result.now (c.requires.within t) c.requires.before c.min-count.ensures (part_before _ _ w (e.rests t) (e.part t)) (covered w _ _ _ _ c.if-not-is_whole.false refl e.covers) c.lend-bytes.ensures
    c.in-Record.length _ c.find-found.result _ _ c.in-Record.is c.find-found.ensures c.in-Ok-extend.ensures.ok (omega arith)
