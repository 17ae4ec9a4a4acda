-- What is seen of the lanes of a station that served.
use Rattle.std.specs.Prelude.{ℕ, ◌-◌, ◌<◌, ◌^◌, List, length}
use Rattle.ask_session.specs.Copies.{IsTellable, lane_entries}
use Rattle.bmp_specs.specs.Meaning.{Meaning}
use Rattle.bmp_specs.specs.Steps.{steps_of}
use Rattle.cut_publisher.specs.History.{Asker, Fed}
use Rattle.rib_model.specs.declared.entry.Entry.{Entry}
use Rattle.router_tables.specs.Tables.{TablesValue}
use Rattle.feed_worker.specs.Lives.{IsServedLane}
use Rattle.station_run.specs.Served.{AskRun, IsServed, LaneRun}

-- Each lane of the station is one that served from nothing on, and its part of the one history is what it published. So whichever
-- front of this history a client's reply is on, what it sees of the lane are lives (`feed_worker`, `Lives`).
abbrev pub LanesAreServed : Meaning → Type 0
LanesAreServed meaning = (rounds lanes askers : ℕ) (runs : List LaneRun) (ask_runs : List AskRun) (cut : List (TablesValue × ℕ)) (feeds : List (Fed Entry)) (asks : List (Asker Entry)) (rev : ℕ)
    → (served : IsServed meaning rounds lanes askers runs ask_runs cut feeds asks rev) → (lane : ℕ) → lane < lanes → IsServedLane meaning lane served.ending.history

-- The replies can tell a copy of the lane's rows what it needs (`ask_session`, `Copies`): each announcement of the lane is of a peer
-- that is up.
abbrev pub LanesAreTellable : Meaning → Type 0
LanesAreTellable meaning = (rounds lanes askers : ℕ) (runs : List LaneRun) (ask_runs : List AskRun) (cut : List (TablesValue × ℕ)) (feeds : List (Fed Entry)) (asks : List (Asker Entry)) (rev : ℕ)
    → (served : IsServed meaning rounds lanes askers runs ask_runs cut feeds asks rev) → (lane : ℕ) → lane < lanes → length (steps_of (lane_entries lane served.ending.history)) < 2 ^ 64 - 1 → IsTellable lane served.ending.history
