use Rattle.std.proofs.Common.{ℕ, List, sym, ◌∙◌, subst, arith}
use Rattle.disk_doors.proofs.Passing.{asked_rests, rests_then, not_planned}
use Rattle.feed_archive.specs.declared.scanning.Found.{Found}
use Rattle.feed_archive.specs.Scanning.{FitsEnd, HasScanned}
use Rattle.feed_archive.proofs.Reading.{part_none, scan_starts, scan_on, scan_shut, scan_fault, scan_over, end_within, plain_fits, damage_calm, cause_from, damage_planned, planned_later}
use Rattle.feed_archive.proofs.scanning.scan.Goals as goal

pub returns-in_default-size-clause-rests : goal.returns-in_default-size-clause-rests
returns-in_default-size-clause-rests g c = λ t. asked_rests _ _ (c.in_default-size.ensures.told t).next

pub loop-place-init : goal.loop-place-init
loop-place-init g c = record {
  within = omega arith;
  calm = c.in-Ok-size.ensures.cause.fine;
  part = λ t. part_none _ c.in-Ok.window c.in-Ok.ensures;
  rests = λ t. asked_rests _ _ (c.in-Ok-size.ensures.told t).next;
  scanned = λ t. subst (λ (w : List ℕ). HasScanned (g.D.Disk.shows c.args.disk.now).now.file 0 w) (sym c.new-content.ensures) (scan_starts _);
}

pub take_next-requires-clause-within : goal.take_next-requires-clause-within
take_next-requires-clause-within g c = λ t.
    let i = c.loop-place.invariant in
    end_within (g.D.Disk.shows c.args.disk.now) (g.D.Disk.shows c.loop-place.disk) _ _ c.loop-place.place _ (i.rests t) (c.in-Ok-size.ensures.told t).size c.min-end.ensures (i.scanned t)

pub loop-place-preserved : goal.loop-place-preserved
loop-place-preserved g c =
    let i = c.loop-place.invariant in
    let e = c.in-Ok-Record.ensures in
    let fits = subst (λ (x : Found). FitsEnd c.min-end.result c.loop-place.place x) c.in-Ok-Record.field-0-is e.fits in
    record {
      within = omega (arith, fits.0);
      calm = e.cause ∙ i.calm;
      part = e.part;
      rests = λ t. rests_then _ _ _ (i.rests t) (e.rests t);
      scanned = λ t.
          scan_on (g.D.Disk.shows c.args.disk.now) (g.D.Disk.shows c.loop-place.disk) _ _ c.loop-place.place _ (i.rests t) (c.in-Ok-size.ensures.told t).size c.min-end.ensures (i.scanned t) c.in-Ok-Record.length _ _ e.fits c.in-Ok-Record.field-0-is (e.told t);
    }

pub returns-in-Ok-Closed-clause-told : goal.returns-in-Ok-Closed-clause-told
returns-in-Ok-Closed-clause-told g c = λ t.
    let i = c.loop-place.invariant in
    scan_shut (g.D.Disk.shows c.args.disk.now) (g.D.Disk.shows c.loop-place.disk) _ _ c.loop-place.place _ (i.rests t) (c.in-Ok-size.ensures.told t).size c.min-end.ensures (i.scanned t) _ _ c.in-Ok-Closed.field-0-is (c.in-Ok-Closed.ensures.told t)

pub returns-in-Ok-Closed-clause-rests : goal.returns-in-Ok-Closed-clause-rests
returns-in-Ok-Closed-clause-rests g c = λ t. rests_then _ _ _ (c.loop-place.invariant.rests t) (c.in-Ok-Closed.ensures.rests t)

pub returns-in-Ok-Broken-clause-told : goal.returns-in-Ok-Broken-clause-told
returns-in-Ok-Broken-clause-told g c = λ t.
    let i = c.loop-place.invariant in
    scan_fault (g.D.Disk.shows c.args.disk.now) (g.D.Disk.shows c.loop-place.disk) _ _ c.loop-place.place _ (i.rests t) (c.in-Ok-size.ensures.told t).size c.min-end.ensures (i.scanned t) _ _ _ c.in-Ok-Broken.field-0-is (c.in-Ok-Broken.ensures.told t) c.damage.ensures

pub returns-in-Ok-Broken-clause-rests : goal.returns-in-Ok-Broken-clause-rests
returns-in-Ok-Broken-clause-rests g c = λ t. rests_then _ _ _ (c.loop-place.invariant.rests t) (c.in-Ok-Broken.ensures.rests t)

pub returns-in-Ok-Broken-clause-cause : goal.returns-in-Ok-Broken-clause-cause
returns-in-Ok-Broken-clause-cause g c = damage_calm _ _ _ _ _ c.damage.ensures (c.in-Ok-Broken.ensures.cause ∙ c.loop-place.invariant.calm)

pub returns-in-Err-clause-told : goal.returns-in-Err-clause-told
returns-in-Err-clause-told g c = λ t. plain_fits _ _ c.in-Err.ensures.plain

pub returns-in-Err-clause-rests : goal.returns-in-Err-clause-rests
returns-in-Err-clause-rests g c = λ t. rests_then _ _ _ (c.loop-place.invariant.rests t) (c.in-Err.ensures.rests t)

pub returns-in-Err-clause-cause : goal.returns-in-Err-clause-cause
returns-in-Err-clause-cause g c = cause_from _ _ _ _ c.loop-place.invariant.calm c.in-Err.ensures.cause

pub returns-clause-told : goal.returns-clause-told
returns-clause-told g c = λ t.
    let i = c.loop-place.invariant in
    scan_over (g.D.Disk.shows c.args.disk.now) (g.D.Disk.shows c.loop-place.disk) _ _ c.loop-place.place _ (i.rests t) (c.in-Ok-size.ensures.told t).size c.min-end.ensures (i.scanned t) _ c.loop-place-test.false c.damage-2.ensures

pub returns-clause-cause : goal.returns-clause-cause
returns-clause-cause g c = damage_calm _ _ _ _ _ c.damage-2.ensures c.loop-place.invariant.calm

pub returns-in_default-size-clause-planned : goal.returns-in_default-size-clause-planned
returns-in_default-size-clause-planned g c = λ t s. not_planned _ _ s (c.in_default-size.ensures.told t).planned

pub returns-in-Ok-Broken-clause-planned : goal.returns-in-Ok-Broken-clause-planned
returns-in-Ok-Broken-clause-planned g c = λ t. damage_planned _ _ _ _ c.damage.ensures

pub returns-in-Err-clause-planned : goal.returns-in-Err-clause-planned
returns-in-Err-clause-planned g c = λ t. planned_later _ _ _ (c.loop-place.invariant.rests t).lasts (c.in-Err.ensures.planned t)

pub returns-clause-planned : goal.returns-clause-planned
returns-clause-planned g c = λ t. damage_planned _ _ _ _ c.damage-2.ensures
