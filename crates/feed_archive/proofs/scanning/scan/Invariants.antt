use Rattle.std.proofs.Common.{◌-◌, ◌≡◌, ◌≤◌}
use Rattle.disk_doors.specs.Disk.{Rests}
use Rattle.feed_archive.specs.Scanning.{HasScanned, IsPart}
use Rattle.feed_archive.proofs.scanning.scan.Given as goal

abbrev pub invariant-loop-place : goal.invariant-loop-place
invariant-loop-place g l = record {
  within : l.place ≤ l.end;
  calm : g.D.Disk.faults l.disk ≡ g.D.Disk.faults l.fn.disk;
  part : g.D.Disk.tells → IsPart (g.D.Disk.shows l.disk).now.file l.window;
  rests : g.D.Disk.tells → Rests (g.D.Disk.shows l.fn.disk) (g.D.Disk.shows l.disk);
  scanned : g.D.Disk.tells → HasScanned (g.D.Disk.shows l.fn.disk).now.file l.place l.content;
}

abbrev pub decreases-loop-place : goal.decreases-loop-place
decreases-loop-place g l = l.end - l.place
