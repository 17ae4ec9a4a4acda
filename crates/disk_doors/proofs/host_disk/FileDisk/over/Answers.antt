use Rattle.disk_doors.proofs.host_disk.FileDisk.over.Goals as goal

pub invariant_of-result : goal.invariant_of-result
invariant_of-result g c = record { none = λ e. c.new.ensures; all = λ e t. absurd cc }
