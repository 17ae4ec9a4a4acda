-- What `rov` comes to where the VRPs of its file aren't read.
use Rattle.std.proofs.Common.{◌≡◌, ℕ, List, Option, Ok}
use Rattle.bmp_specs.specs.Meaning.{Meaning}
use Rattle.bmp_specs.specs.Values.{PrefixValue}
use Rattle.rov_table.specs.VrpFile.{IsFaultOf, file_records}
use Rattle.rov_table.specs.declared.vrp.VrpFault.{VrpFault}
use Rattle.rov_table.specs.declared.vrp.VrpFault.TheVariants as fault
use Rattle.station_doors.specs.Doors.{YardValue, one_more}
use Rattle.station_doors.specs.Files.{GivesFile}
use Rattle.station_top.specs.Rov.{IsRefused}
use Rattle.station_top.specs.Station.{RovConcludes, bad_file, file_starved}
use Rattle.station_top.specs.declared.status.Status.{Status}

pub concludes_refused : (meaning : Meaning) (path : List ℕ) (prefix : PrefixValue) (old new : Option YardValue) (number calls : ℕ) (told0 told1 : Option (List ℕ)) (status : Status) (bytes : List ℕ) (why : VrpFault) → GivesFile path number old new (Ok bytes) → IsFaultOf (file_records bytes) why → calls ≡ one_more number → IsRefused told0 told1 why status
    → RovConcludes meaning path prefix old new number calls told0 told1 status
concludes_refused meaning path prefix old new number calls told0 told1 status bytes (fault.Bad place) gives bad counted written = bad_file bytes place gives bad counted written
concludes_refused meaning path prefix old new number calls told0 told1 status bytes fault.NoMemory gives bad counted (same, is) = file_starved (Ok bytes) gives counted same is
