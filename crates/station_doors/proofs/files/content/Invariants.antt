use Rattle.std.proofs.Common.{◌≡◌, map, drop}
use Rattle.station_doors.specs.Files.{file_at}
use Rattle.station_doors.specs.MemYard.{file_value}
use Rattle.station_doors.proofs.files.content.Given as goal

abbrev pub invariant-loop-file : goal.invariant-loop-file
invariant-loop-file l = file_at l.path (map file_value (drop l.file-index l.files)) ≡ file_at l.path (map file_value l.files)
