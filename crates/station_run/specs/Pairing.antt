-- Works of lanes and of askers in one list.
use Rattle.std.specs.Prelude.{◌≡◌, ℕ, List, [], ◌∷◌, map, Bool, true, false}
use Rattle.std.specs.List.{AllByRecursion}
use Rattle.cut_publisher.specs.History.{Asker, Fed}
use Rattle.rib_model.specs.declared.entry.Entry.{Entry}
use Rattle.feed_worker.specs.declared.feed.LaneEnd.{LaneEnd}
use Rattle.feed_worker.specs.declared.feed.LaneEnd.TheVariants as end
use Rattle.station_run.specs.declared.tasks.LaneWork.{LaneWork}
use Rattle.station_run.specs.declared.tasks.AskWork.{AskWork}
use Rattle.station_run.specs.declared.tasks.Task.{Task}
use Rattle.station_run.specs.declared.tasks.Task.TheVariants.{Lane, Ask}
use Rattle.station_run.specs.declared.outcome.Outcome.{Outcome}
use Rattle.station_run.specs.declared.outcome.Outcome.TheVariants as outcome

-- the lanes' works among them, in order
abbrev pub lanes_of : {B P K : Type 0} → List (Task B P K) → List (LaneWork B P)
lanes_of [] = []
lanes_of (Lane w ∷ tasks) = w ∷ lanes_of tasks
lanes_of (Ask w ∷ tasks) = lanes_of tasks

-- the askers' works among them, in order
abbrev pub asks_of : {B P K : Type 0} → List (Task B P K) → List (AskWork K)
asks_of [] = []
asks_of (Lane w ∷ tasks) = asks_of tasks
asks_of (Ask w ∷ tasks) = w ∷ asks_of tasks

abbrev pub is_want : LaneEnd → Bool
is_want end.Over = false
is_want end.NoMemory = true

module _ {B P : Type 0} where
  abbrev pub passes : List (LaneWork B P) → List (Fed Entry)
  passes works = map (λ w. w.pass) works

  abbrev pub ports : List (LaneWork B P) → List P
  ports works = map (λ w. w.port) works

  abbrev pub ends : List (LaneWork B P) → List LaneEnd
  ends works = map (λ w. w.end) works

module _ {K : Type 0} where
  abbrev pub ask_passes : List (AskWork K) → List (Asker Entry)
  ask_passes works = map (λ w. w.pass) works

  abbrev pub links : List (AskWork K) → List K
  links works = map (λ w. w.link) works

-- the works of these passes and ports, each at its place, which serve so many connections
pub record LanesArePaired {B P K : Type 0} (feeds : List (Fed Entry)) (doors : List P) (rounds : ℕ) (tasks : List (Task B P K)) : Type 0 where
  pub passes_are : passes (lanes_of tasks) ≡ feeds
  pub ports_are : ports (lanes_of tasks) ≡ doors
  pub rounds_are : AllByRecursion (λ w. w.rounds ≡ rounds) (lanes_of tasks)

-- the same of askers
pub record AsksArePaired {B P K : Type 0} (asks : List (Asker Entry)) (doors : List K) (rounds : ℕ) (tasks : List (Task B P K)) : Type 0 where
  pub passes_are : ask_passes (asks_of tasks) ≡ asks
  pub links_are : links (asks_of tasks) ≡ doors
  pub rounds_are : AllByRecursion (λ w. w.rounds ≡ rounds) (asks_of tasks)

-- both
pub record ArePaired {B P K : Type 0} (feeds : List (Fed Entry)) (doors : List P) (asks : List (Asker Entry)) (ask_doors : List K) (rounds : ℕ) (tasks : List (Task B P K)) : Type 0 where
  pub lanes : LanesArePaired feeds doors rounds tasks
  pub askers : AsksArePaired asks ask_doors rounds tasks

-- whether it is the work of a lane that ended out of memory
abbrev pub starved : {B P K : Type 0} → Task B P K → Bool
starved (Lane w) = is_want w.end
starved (Ask w) = false

-- what is answered after one more work, which ended out of memory or not
abbrev pub after_one : Bool → Outcome → Outcome
after_one true o = outcome.NoMemory
after_one false o = o

-- what a station answers whose lanes ended so: whether one of them ended out of memory
abbrev pub outcome_of : List LaneEnd → Outcome
outcome_of [] = outcome.Done
outcome_of (end.Over ∷ ends) = outcome_of ends
outcome_of (end.NoMemory ∷ ends) = outcome.NoMemory
