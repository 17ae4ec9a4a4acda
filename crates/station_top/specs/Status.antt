-- The exit statuses of the program.
use Rattle.std.specs.Prelude.{ℕ, Result, Ok, Err}
use Rattle.bmp_specs.specs.declared.causes.Cause.{Cause}
use Rattle.bmp_specs.specs.declared.causes.Cause.TheVariants as cause
use Rattle.relay_out.specs.declared.fault.EmitFault.{EmitFault}
use Rattle.relay_out.specs.declared.fault.EmitFault.TheVariants as fault
use Rattle.station_run.specs.declared.outcome.Outcome.{Outcome}
use Rattle.station_run.specs.declared.outcome.Outcome.TheVariants as outcome
use Rattle.station_top.specs.declared.status.Status.{Status}
use Rattle.station_top.specs.declared.status.Status.TheVariants.{Done, Stopped, Usage, ReadFault, WriteFault, NoMemory, YardFault, Unwritable, BadFile, BadArchive, DiskFault, ArchiveFull}

abbrev pub code_of : Status → ℕ
code_of Done = 0
code_of Stopped = 1
code_of Usage = 2
code_of ReadFault = 3
code_of WriteFault = 4
code_of NoMemory = 5
code_of YardFault = 6
code_of Unwritable = 8
code_of BadFile = 9
code_of BadArchive = 10
code_of DiskFault = 11
code_of ArchiveFull = 12

-- the status of a stream that stopped for this cause
abbrev pub status_of : Cause → Status
status_of cause.Ended = Done
status_of cause.Terminated = Done
status_of (cause.CutShort offset) = Stopped
status_of (cause.Broken offset why) = Stopped
status_of (cause.ReadFault offset) = ReadFault
status_of cause.Full = Stopped

-- the status of a relay of what a stream left that stopped for this cause
abbrev pub status_relayed : Result (Unit {0}) EmitFault → Cause → Status
status_relayed (Ok v) cause = status_of cause
status_relayed (Err fault.Failed) cause = WriteFault
status_relayed (Err fault.Unwritable) cause = Unwritable
status_relayed (Err fault.NoMemory) cause = NoMemory

-- the status of a station that served
abbrev pub status_served : Outcome → Status
status_served outcome.Done = Done
status_served outcome.NoMemory = NoMemory
status_served outcome.YardFault = YardFault
status_served outcome.WriteFault = WriteFault
