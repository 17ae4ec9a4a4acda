use Rattle.disk_doors.proofs.Torn.{file_left, kept_left}
use Rattle.disk_doors.proofs.laws.the_file_may_be_left.Goals as goal

pub returns-clause-write : goal.returns-clause-write
returns-clause-write c = file_left

pub returns-clause-sync : goal.returns-clause-sync
returns-clause-sync c = kept_left
