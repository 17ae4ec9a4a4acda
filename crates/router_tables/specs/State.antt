-- The state of a lane as a value, and what a closing makes of it.
use Rattle.std.specs.Prelude.{Bool, true, false}
use Rattle.bmp_specs.specs.declared.causes.Cause.{Cause}
use Rattle.bmp_specs.specs.Session.{LaneStateValue, idle, live, shut}
use Rattle.router_tables.specs.declared.state.LaneState.{LaneState}
use Rattle.router_tables.specs.declared.state.LaneState.TheVariants.{Idle, Live, Closed}

abbrev pub state_value : LaneState → LaneStateValue
state_value Idle = idle
state_value Live = live
state_value (Closed cause) = shut cause

abbrev pub is_live : LaneStateValue → Bool
is_live idle = false
is_live live = true
is_live (shut cause) = false

-- a lane that never had a connection has none that is closed
abbrev pub after_closing : LaneStateValue → Cause → LaneStateValue
after_closing idle cause = idle
after_closing live cause = shut cause
after_closing (shut was) cause = shut cause
