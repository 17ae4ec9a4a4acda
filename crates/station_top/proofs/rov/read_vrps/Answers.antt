use Rattle.std.proofs.Common.{ℕ, List, IfOk, IfErr, subst}
use Rattle.rov_table.specs.VrpFile.{AreVrps, IsFaultOf, file_records}
use Rattle.station_top.proofs.rov.read_vrps.Goals as goal

pub returns-clause-are : goal.returns-clause-are
returns-clause-are c = subst (λ (l : List ℕ). IfOk c.read.result (AreVrps (file_records l))) c.as_slice.ensures c.read.ensures.are

pub returns-clause-fault : goal.returns-clause-fault
returns-clause-fault c = subst (λ (l : List ℕ). IfErr c.read.result (IsFaultOf (file_records l))) c.as_slice.ensures c.read.ensures.fault
