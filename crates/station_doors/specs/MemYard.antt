-- A yard in memory.
use Rattle.std.specs.Prelude.{◌≡◌, ℕ, List, [], ◌∷◌, Option, Some, None, map, unwrap_or, nat_eq, if◌then◌else◌}
use Rattle.wire_io.specs.Aside.{Plan}
use Rattle.station_doors.specs.Connections.{no_plan}
use Rattle.station_doors.specs.MemPort.{MemPortValue}
use Rattle.station_doors.specs.MemLink.{MemLinkValue}
use Rattle.disk_doors.specs.MemDisk.{MemDiskValue}
use Rattle.station_doors.specs.Doors.{DiskAt, DiskShown, FileValue, YardValue, Returned, ReturnedLink, untouched, untouched_link}
use Rattle.station_doors.specs.declared.listening.Listening.{Listening}
use Rattle.station_doors.specs.declared.files.MemFile.{MemFile}
use Rattle.station_doors.specs.declared.slots.Slot.{Slot}
use Rattle.station_doors.specs.declared.mem_yard.Back.{Back}
use Rattle.station_doors.specs.declared.mem_yard.LinkBack.{LinkBack}

-- what it tells, what it was asked to listen for, how many of its calls were made, its count of faults, the ending that
-- it took last, and how many it took
pub record MemYardValue (E : Type 0) : Type 0 where
  pub tells : YardValue
  pub listened : Option Listening
  pub calls : ℕ
  pub faults : ℕ
  pub ending : Option E
  pub endings : ℕ

abbrev pub plan_of : MemPortValue → Plan
plan_of port = unwrap_or port.shows.plan no_plan

-- a port that has answered no call yet
abbrev pub IsUntouched : MemPortValue → Type 0
IsUntouched port = (port.shows ≡ untouched (plan_of port)) × (port.reads ≡ 0)

abbrev pub link_plan_of : MemLinkValue → Plan
link_plan_of link = unwrap_or link.shows.plan no_plan

-- a link that has answered no call yet, and to which nothing was written
abbrev pub IsIdle : MemLinkValue → Type 0
IsIdle link = (link.shows ≡ untouched_link (link_plan_of link)) × (link.written ≡ []) × (link.faults ≡ 0) × (link.calls ≡ 0)

abbrev pub returned_of : Back → Returned
returned_of b = record { lane = b.lane; shows = b.port.shows }

abbrev pub returned_link_of : LinkBack → ReturnedLink
returned_link_of b = record { number = b.number; shows = b.link.shows; written = Some b.link.written; faults = b.link.faults }

abbrev pub file_value : MemFile → FileValue
file_value f = record { path = f.path; bytes = f.bytes }

abbrev pub shown_of : MemDiskValue → DiskShown
shown_of d = record { value = d.shows; faults = d.faults }

abbrev pub shows_of : Option MemDiskValue → Option DiskShown
shows_of None = None
shows_of (Some d) = Some (shown_of d)

abbrev pub slot_value : Slot → DiskAt
slot_value s = record { path = s.path; shows = shows_of s.disk }

-- what it tells with these ports and links left, these numbers handed out, these ports and links given back, these files,
-- and these disks
abbrev pub tells_of : List MemPortValue → List MemLinkValue → List ℕ → List ℕ → List ℕ → List Back → List LinkBack → List MemFile → List Slot → YardValue
tells_of ports links fails out links_out back links_back files disks = record { ports = map plan_of ports; links = map link_plan_of links; fails = fails; out = out; links_out = links_out; back = map returned_of back; links_back = map returned_link_of links_back; files = map file_value files; disks = map slot_value disks }

-- what was written to the first link that was given back under this number
abbrev pub written_by : ℕ → List ReturnedLink → List ℕ
written_by number [] = []
written_by number (b ∷ bs) = if nat_eq b.number number then unwrap_or b.written [] else written_by number bs
