use Rattle.disk_doors.proofs.Passing.{rests_none}
use Rattle.feed_archive.proofs.Begun.{keeps_rests, keeps_synced, refuses_rests, refuses_synced, begun_closed, begun, fresh_plain, fresh_place}
use Rattle.feed_archive.proofs.archive.Archive.begin.Goals as goal

pub returns-in_default-clause-refused : goal.returns-in_default-clause-refused
returns-in_default-clause-refused g c = λ t. (keeps_rests _ _ (rests_none _), rests_none _, tt)

pub returns-in-Err-clause-refused : goal.returns-in-Err-clause-refused
returns-in-Err-clause-refused g c = λ t. (keeps_rests _ _ (c.in-Err.ensures.rests t), refuses_rests _ _ _ (c.in-Err.ensures.rests t), c.in-Err.ensures.told t)

pub returns-in-Err-sync-clause-refused : goal.returns-in-Err-sync-clause-refused
returns-in-Err-sync-clause-refused g c = λ t.
    (keeps_synced _ _ _ _ (c.in-Ok-scan.ensures.rests t) (c.in-Err-sync.ensures.told t), refuses_synced _ _ _ _ (c.in-Ok-scan.ensures.rests t) (c.in-Err-sync.ensures.told t), tt)

pub invariant_of-result : goal.invariant_of-result
invariant_of-result g c = (
  c.in-Ok.ensures.capacity,
  c.in-Ok-scan.ensures.place,
  λ e t. let a = c.in-Ok-scan.ensures.told t in begun_closed _ _ _ _ (c.in-Ok-scan.ensures.rests t) (c.in-Ok-sync.ensures.told t) _ _ a.1,
)

pub returns-clause-ok : goal.returns-clause-ok
returns-clause-ok g c = λ t. let a = c.in-Ok-scan.ensures.told t in begun _ _ _ _ (c.in-Ok-scan.ensures.rests t) (c.in-Ok-sync.ensures.told t) _ _ a.1

pub returns-clause-closed : goal.returns-clause-closed
returns-clause-closed g c = λ t. let a = c.in-Ok-scan.ensures.told t in begun_closed _ _ _ _ (c.in-Ok-scan.ensures.rests t) (c.in-Ok-sync.ensures.told t) _ _ a.1

pub returns-in-Err-clause-fresh : goal.returns-in-Err-clause-fresh
returns-in-Err-clause-fresh g c = λ t is. fresh_plain (g.D.Disk.shows c.args.disk) _ is (c.in-Err.ensures.told t)

pub returns-clause-fresh : goal.returns-clause-fresh
returns-clause-fresh g c = λ t is. let a = c.in-Ok-scan.ensures.told t in fresh_place (g.D.Disk.shows c.args.disk) _ _ is a.1
