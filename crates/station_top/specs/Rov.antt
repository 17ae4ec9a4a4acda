-- What `rov` replies from and with, and what it writes of a file that isn't read.
use Rattle.std.specs.Prelude.{◌≡◌, ℕ, List, Option, length}
use Rattle.bmp_specs.specs.Values.{EntryValue}
use Rattle.router_tables.specs.Tables.{StandsFor}
use Rattle.rov_reply.specs.RovLines.{IsRovReply}
use Rattle.rov_table.specs.declared.vrp.VrpFault.{VrpFault}
use Rattle.rov_table.specs.declared.vrp.VrpFault.TheVariants as fault
use Rattle.station_top.specs.Replay.{Gathers}
use Rattle.station_top.specs.Station.{badfile_line}
use Rattle.station_top.specs.Written.{IsWritten}
use Rattle.station_top.specs.declared.rov.Judged.{Judged}
use Rattle.station_top.specs.declared.rov.Judging.{Judging}
use Rattle.station_top.specs.declared.rov.Rov.{Rov}
use Rattle.station_top.specs.declared.status.Status.{Status}
use Rattle.station_top.specs.declared.status.Status.TheVariants.{NoMemory, BadFile}

-- the account has these entries
abbrev pub StandsAs : Rov → List EntryValue → Type 0
StandsAs rov entries = Gathers rov.replay entries

-- the tables stand for these entries, so many
abbrev pub TellsRows : Judged → List EntryValue → Type 0
TellsRows judged entries = StandsFor judged.tables entries × (judged.revision ≡ length entries)

-- the text is the reply on the one lane with these entries
abbrev pub IsJudged : Judging → List EntryValue → List ℕ → Type 0
IsJudged judging entries text = IsRovReply judging.vrps judging.prefix entries text

-- what is answered and written where the VRPs of a file aren't read
abbrev pub IsRefused : Option (List ℕ) → Option (List ℕ) → VrpFault → Status → Type 0
IsRefused told0 told1 (fault.Bad number) status = IsWritten told0 told1 (badfile_line number) BadFile status
IsRefused told0 told1 fault.NoMemory status = (told1 ≡ told0) × (status ≡ NoMemory)
