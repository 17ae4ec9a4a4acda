use Rattle.std.proofs.Common.{length, ◌≤◌}
use Rattle.std.specs.Io.KnownBytes.{Consumes}
use Rattle.station_doors.specs.Files.{most_file}
use Rattle.station_doors.proofs.files.read_whole.Given as goal

abbrev pub invariant-reads : goal.invariant-reads
invariant-reads g l = record {
  taken : Consumes (g.R.Read.remaining l.fn.input) (g.R.Read.remaining l.input) l.bytes;
  within : length l.bytes ≤ most_file;
}
