-- The works of lanes and askers, when each can be begun, and what it is afterwards.
use Rattle.std.specs.Prelude.{◌≡◌, ℕ, List, [], Option}
use Rattle.bmp_specs.specs.Meaning.{Meaning}
use Rattle.cut_publisher.specs.History.{Site}
use Rattle.wire_io.specs.Aside.{Aside}
use Rattle.feed_worker.specs.Feed.{ServesFeed}
use Rattle.ask_session.specs.Sessions.{Served, Sees}
use Rattle.station_run.specs.declared.tasks.LaneWork.{LaneWork}
use Rattle.station_run.specs.declared.tasks.AskWork.{AskWork}
use Rattle.station_run.specs.declared.tasks.Task.{Task}
use Rattle.station_run.specs.declared.tasks.Task.TheVariants.{Lane, Ask}

-- the connections of the port were served, and published by the pass
pub record LaneIsDone {B P : Type 0} (meaning : Meaning) (shows : P → Aside) (w v : LaneWork B P) : Type 0 where
  pub serves : ServesFeed meaning w.rounds (shows w.port) (shows v.port) w.pass v.pass v.end

-- the connections of the link were served, by what the pass had seen
pub record AskIsDone {K : Type 0} (shows : K → Aside) (told : K → Option (List ℕ)) (faults : K → ℕ) (w v : AskWork K) : Type 0 where
  pub sees : Sees w.pass v.pass
  pub served : Served w.pass.station.lanes w.rounds w.pass.seen v.pass.seen (shows w.link) (shows v.link) (told w.link) (told v.link) (faults w.link) (faults v.link) v.served

abbrev pub station_of : {B P K : Type 0} → Task B P K → Site
station_of (Lane w) = w.pass.station
station_of (Ask w) = w.pass.station

-- a lane begins with a pass that published nothing; an asker can begin at any time
abbrev pub MayBegin : {B P K : Type 0} → Task B P K → Type 0
MayBegin (Lane w) = w.pass.entries ≡ []
MayBegin (Ask w) = Unit {0}

-- it is done, and of the same kind
abbrev pub IsDone : {B P K : Type 0} → Meaning → (P → Aside) → (K → Aside) → (K → Option (List ℕ)) → (K → ℕ) → Task B P K → Task B P K → Type 0
IsDone meaning port link told faults (Lane w) (Lane v) = LaneIsDone meaning port w v
IsDone meaning port link told faults (Lane w) (Ask v) = ⊥
IsDone meaning port link told faults (Ask w) (Lane v) = ⊥
IsDone meaning port link told faults (Ask w) (Ask v) = AskIsDone link told faults w v
