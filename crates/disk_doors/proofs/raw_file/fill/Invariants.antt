use Rattle.std.proofs.Common.{length, ◌-◌, ◌≤◌}
use Rattle.disk_doors.proofs.Filling.{FillsTo}
use Rattle.disk_doors.proofs.raw_file.fill.Given as goal

abbrev pub invariant-parts : goal.invariant-parts
invariant-parts g l = record {
  room : l.done ≤ length l.buf;
  told : g.F.RawFile.tells → FillsTo (g.F.RawFile.shows l.fn.file) (g.F.RawFile.shows l.file) l.place l.done l.buf;
}

abbrev pub decreases-parts : goal.decreases-parts
decreases-parts g l = length l.initial.buf - l.done
