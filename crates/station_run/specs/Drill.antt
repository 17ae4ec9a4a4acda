-- A drill: lanes take streams that follow from a few numbers, side by side with askers, and no connection is closed.
use Rattle.std.specs.Prelude.{◌≡◌, IsTrue, ℕ, ◌<◌, List, [], ◌∷◌, length, Option, Some, None}
use Rattle.std.specs.List.{All, Contains}
use Rattle.bmp_specs.specs.Life.{most_taken}
use Rattle.bmp_specs.specs.Meaning.{WalksBy}
use Rattle.bmp_specs.specs.MessageEffects.{strict}
use Rattle.bmp_specs.specs.Octets.{AreOctets}
use Rattle.bmp_specs.specs.Openings.{nothing_told}
use Rattle.bmp_specs.specs.Values.{EntryValue, opened}
use Rattle.bmp_specs.specs.Walk.{Verdict}
use Rattle.cut_publisher.specs.Cuts.{Stands}
use Rattle.cut_publisher.specs.History.{Asker, Fed, Site, part}
use Rattle.drill_streams.specs.DrillStream.{IsDrillStream}
use Rattle.rib_model.specs.declared.entry.Entry.{Entry}
use Rattle.rib_model.specs.Entries.{entry_values}
use Rattle.router_tables.specs.Tables.{TablesValue}
use Rattle.ask_session.specs.Replies.{History}
use Rattle.station_run.specs.Served.{StandFor}
use Rattle.station_run.specs.declared.drill_tasks.DrillLane.{DrillLane}
use Rattle.station_run.specs.declared.drill_tasks.DrillTask.{DrillTask}
use Rattle.station_run.specs.declared.drill_tasks.DrillTask.TheVariants.{Lane, Ask}

-- they are the opening of a connection, of which nothing is told, and all messages of these bytes, by the RFCs alone; it
-- wasn't closed
pub record IsTakenWhole (bytes : List ℕ) (entries : List EntryValue) : Type 0 where
  pub messages : List EntryValue
  pub offset : ℕ
  pub verdict : Verdict
  pub walk : WalksBy strict bytes messages offset verdict
  pub is : entries ≡ opened nothing_told ∷ messages

-- they are the entries that the lane of this number makes of its stream, which is a list of octets
pub record IsDrilled (seed messages lane : ℕ) (entries : List EntryValue) : Type 0 where
  pub bytes : List ℕ
  pub octets : AreOctets bytes
  pub stream : IsDrillStream seed lane messages bytes
  pub taken : IsTakenWhole bytes entries

-- The cut stands for a history of so many lanes, whose part of each lane is what that lane makes of its stream.
pub record IsDrillCut (seed lanes messages : ℕ) (cut : List (TablesValue × ℕ)) : Type 0 where
  pub history : History
  pub stands : Stands StandFor cut history
  pub wide : length cut ≡ lanes
  pub parts : (lane : ℕ) → lane < lanes → IsDrilled seed messages lane (entry_values (part lane history))

abbrev pub drill_station : DrillTask → Site
drill_station (Lane w) = w.pass.station
drill_station (Ask w) = w.pass.station

-- a lane published nothing yet, and its stream is short enough to be taken whole
pub record LaneMayDrill (w : DrillLane) : Type 0 where
  pub none : w.pass.entries ≡ []
  pub short : length w.stream < most_taken

abbrev pub MayDrill : DrillTask → Type 0
MayDrill (Lane w) = LaneMayDrill w
MayDrill (Ask w) = Unit {0}

-- the lane took its stream, where it says so
pub record LaneHasDrilled (w v : DrillLane) : Type 0 where
  pub station : v.pass.station ≡ w.pass.station
  pub lane : v.pass.lane ≡ w.pass.lane
  pub whole : IsTrue v.is_whole → IsTakenWhole w.stream (entry_values v.pass.entries)

abbrev pub HasDrilled : DrillTask → DrillTask → Type 0
HasDrilled (Lane w) (Lane v) = LaneHasDrilled w v
HasDrilled (Lane w) (Ask v) = ⊥
HasDrilled (Ask w) (Lane v) = ⊥
HasDrilled (Ask w) (Ask v) = v.pass.station ≡ w.pass.station

-- the lane whose work it is
abbrev pub lane_of : DrillTask → Option ℕ
lane_of (Lane w) = Some w.pass.lane
lane_of (Ask w) = None

-- each of these works is so, and each lane below this number has one
pub record AreWorks (Is : DrillTask → Type 0) (lanes : ℕ) (tasks : List DrillTask) : Type 0 where
  pub each : All Is tasks
  pub all : (lane : ℕ) → lane < lanes → (task : DrillTask) × Contains tasks task × (lane_of task ≡ Some lane)

-- a work of this station before it begins: a lane has its stream
abbrev pub Begins : ℕ → ℕ → Site → DrillTask → Type 0
Begins seed messages b (Lane w) = (w.pass.station ≡ b) × LaneMayDrill w × AreOctets w.stream × IsDrillStream seed w.pass.lane messages w.stream
Begins seed messages b (Ask w) = w.pass.station ≡ b

-- the same once it is done: a lane made of its stream what it says, where it was taken whole
abbrev pub Ends : ℕ → ℕ → Site → DrillTask → Type 0
Ends seed messages b (Lane w) = (w.pass.station ≡ b) × (IsTrue w.is_whole → IsDrilled seed messages w.pass.lane (entry_values w.pass.entries))
Ends seed messages b (Ask w) = w.pass.station ≡ b

-- a pass of this station that made of its lane's stream what it says
abbrev pub HasDrilledPass : ℕ → ℕ → Site → Fed Entry → Type 0
HasDrilledPass seed messages b pass = (pass.station ≡ b) × IsDrilled seed messages pass.lane (entry_values pass.entries)

-- these passes are of this station, each made of its lane's stream what it says, and each lane has one
pub record HaveDrilled (seed messages : ℕ) (b : Site) (lanes : ℕ) (feeds : List (Fed Entry)) (asks : List (Asker Entry)) : Type 0 where
  pub feeds_each : All (HasDrilledPass seed messages b) feeds
  pub asks_each : All (λ (a : Asker Entry). a.station ≡ b) asks
  pub all : (lane : ℕ) → lane < lanes → (pass : Fed Entry) × Contains feeds pass × (pass.lane ≡ lane)
